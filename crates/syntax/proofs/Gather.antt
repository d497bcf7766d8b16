-- Every text of the grammar is the text of a program.
use Rattle.std.proofs.Common.{◌≡◌, ℕ, ◌-◌, ◌<◌, ◌⊎◌, List, [], ◌∷◌, ◌++◌, length, decimal, sym, refl, ap, ◌∙◌, subst, inl, inr, ⊎_elim, arith}
use Rattle.std.proofs.lemmas.Fmt.{decimal_digit}
use Rattle.syntax.specs.Grammar.{Stop, Want, Part, Kind, byte, wants, words, more, shut, sep, parts, row, spelling, last, sort_of}
use Rattle.syntax.specs.Grammar.Want.{stop, number, digits, item, word}
use Rattle.syntax.specs.Grammar.Part.{num, sub}
use Rattle.syntax.specs.Grammar.Kind.{type, world, term}
use Rattle.syntax.specs.Texts.{In, valued}
use Rattle.syntax.proofs.Texts.{Text, shown}
use Rattle.syntax.specs.Texts.In.{here, there}
use Rattle.syntax.proofs.Texts.Text.{end, past, nought, some, rest, pick, spell}
use Rattle.syntax.specs.Trees.{Parts, Prog, Fit, inside, written, station_parts, run_parts, stations_text, print, Each, Right}
use Rattle.syntax.specs.Trees.Parts.{none, number as number', form}
use Rattle.syntax.specs.declared.grammar.Form.{Form}
use Rattle.syntax.specs.declared.grammar.Form.TheVariants.{Station, Run}
use Rattle.syntax.specs.declared.grammar.Sort.{Sort}
use Rattle.syntax.specs.declared.grammar.Sort.TheVariants.{Types, Worlds, Terms, First, Further}
use Rattle.instruments.specs.declared.sheet.Station.{Station as Counts}
use Rattle.syntax.proofs.Sound.{Plain, plain_wants}
use Rattle.syntax.proofs.Rows.{inner, in_kind}
use Rattle.syntax.proofs.Numbers.{back}
use Rattle.syntax.proofs.Forms.{sep_is}

pub record Tree (k : Kind) : Type 0 where
  pub head : Form
  pub body : Parts
  pub sort : (row head).sort ≡ sort_of k
  pub fit : Fit body (parts head)

-- what the lines from a place on hold
pub record Lines : Type 0 where
  pub prog : Prog
  pub main : Fit prog.main (sub term ∷ [])
  pub start : prog.start < 65536
  pub stations : Each (λ h. Fit (station_parts h) (parts Station)) prog.stations

abbrev Item : Sort → Type 0
Item Types = Tree type
Item Worlds = Tree world
Item Terms = Tree term
Item First = (l : Lines) × (0 < length l.prog.stations)
Item Further = Lines

abbrev tree_text : (k : Kind) → Tree k → List ℕ → List ℕ
tree_text k t bs = spelling t.head ++ inside t.body (last t.head ∷ bs) (written t.head t.body bs)

abbrev lines_text : Lines → List ℕ → List ℕ
lines_text l bs = stations_text l.prog.stations (spelling Run ++ written Run (run_parts l.prog) (10 ∷ bs))

abbrev item_text : (o : Sort) → Item o → List ℕ → List ℕ
item_text Types t bs = tree_text type t bs
item_text Worlds t bs = tree_text world t bs
item_text Terms t bs = tree_text term t bs
item_text First l bs = lines_text l.0 bs
item_text Further l bs = lines_text l bs

-- what is wanted, filled in
abbrev All : List Want → Type 0
All [] = Unit {0}
All (stop a ∷ ws) = All ws
All (number k a ∷ ws) = ((n : ℕ) × (n < 65536)) × All ws
All (digits k p v a ∷ ws) = All ws
All (item o ∷ ws) = Item o × All ws
All (word o ks ∷ ws) = All ws

abbrev printed : (ws : List Want) → All ws → List ℕ
printed [] x = []
printed (stop a ∷ ws) x = byte a ∷ printed ws x
printed (number k a ∷ ws) x = decimal x.0.0 ++ byte a ∷ printed ws x.1
printed (digits k p v a ∷ ws) x = printed ws x
printed (item o ∷ ws) x = item_text o x.0 (printed ws x.1)
printed (word o ks ∷ ws) x = printed ws x

to_tree : (k : Kind) (i : Item (sort_of k)) → (t : Tree k) × ((bs : List ℕ) → tree_text k t bs ≡ item_text (sort_of k) i bs)
to_tree type i = (i, λ bs. refl)
to_tree world i = (i, λ bs. refl)
to_tree term i = (i, λ bs. refl)

from_tree : (k : Kind) (t : Tree k) → (i : Item (sort_of k)) × ((bs : List ℕ) → item_text (sort_of k) i bs ≡ tree_text k t bs)
from_tree type t = (t, λ bs. refl)
from_tree world t = (t, λ bs. refl)
from_tree term t = (t, λ bs. refl)

pub record Group (f : Form) (ps : List Part) (ws : List Want) (y : All (more f ps ws)) : Type 0 where
  pub tree : Parts
  pub fit : Fit tree ps
  pub then : All ws
  pub is : written f tree (printed ws then) ≡ printed (more f ps ws) y

group : (f : Form) (ps : List Part) (ws : List Want) (y : All (more f ps ws)) → Group f ps ws y
group f [] ws y = record { tree = none; fit = tt; then = y; is = refl }
group f (num ∷ ps) ws y =
    let g = group f ps ws y.1 in
    record {
      tree = number' y.0.0 g.tree;
      fit = (y.0.1, g.fit);
      then = g.then;
      is = ap (λ (a : Stop). decimal y.0.0 ++ byte a ∷ written f g.tree (printed ws g.then)) (sym (sep_is f g.tree ps g.fit))
          ∙ ap (λ (l : List ℕ). decimal y.0.0 ++ byte (sep f ps) ∷ l) g.is;
    }
group f (sub k ∷ ps) ws y =
    let g = group f ps ws y.1 in
    let t = to_tree k y.0 in
    record {
      tree = form t.0.head t.0.body g.tree;
      fit = (t.0.sort, t.0.fit, g.fit);
      then = g.then;
      is = ap (λ (a : Stop). tree_text k t.0 (byte a ∷ written f g.tree (printed ws g.then))) (sym (sep_is f g.tree ps g.fit))
          ∙ ap (λ (l : List ℕ). tree_text k t.0 (byte (sep f ps) ∷ l)) g.is
          ∙ t.1 (byte (sep f ps) ∷ printed (more f ps ws) y.1);
    }

inside_is : (t : Parts) (p : Part) (ps : List Part) (x y : List ℕ) → Fit t (p ∷ ps) → inside t x y ≡ y
inside_is none p ps x y h = absurd h
inside_is (number' n r) p ps x y h = refl
inside_is (form g t r) p ps x y h = refl

pub record Shut (f : Form) (ps : List Part) (ws : List Want) (y : All (shut f ps ws)) : Type 0 where
  pub tree : Parts
  pub fit : Fit tree ps
  pub then : All ws
  pub is : inside tree (last f ∷ printed ws then) (written f tree (printed ws then)) ≡ printed (shut f ps ws) y

shuts : (f : Form) (ps : List Part) (ws : List Want) (y : All (shut f ps ws)) → Shut f ps ws y
shuts f [] ws y = record { tree = none; fit = tt; then = y; is = refl }
shuts f (p ∷ ps) ws y =
    let g = group f (p ∷ ps) ws y in
    record { tree = g.tree; fit = g.fit; then = g.then; is = inside_is g.tree p ps _ _ g.fit ∙ g.is }

abbrev Packed : Sort → List ℕ → List Want → List ℕ → Type 0
Packed o w ws bs = (x : All (item o ∷ ws)) × (printed (item o ∷ ws) x ≡ w ++ bs)

pack_kind : (k : Kind) (f : Form) (w : List ℕ) (ws : List Want) → w ≡ spelling f → (row f).sort ≡ sort_of k → (y : All (shut f (parts f) ws)) → Packed (sort_of k) w ws (printed (shut f (parts f) ws) y)
pack_kind k f w ws e s y =
    let g = shuts f (parts f) ws y in
    let t : Tree k = record { head = f; body = g.tree; sort = s; fit = g.fit } in
    let i = from_tree k t in
    ((i.0, g.then), i.1 (printed ws g.then) ∙ ap (λ (l : List ℕ). spelling f ++ l) g.is ∙ ap (λ (l : List ℕ). l ++ printed (shut f (parts f) ws) y) (sym e))

pack_sort : (k : Kind) (f : Form) (w : List ℕ) (ws : List Want) → In w f (words (sort_of k)) → (y : All (wants f ws)) → Packed (sort_of k) w ws (printed (wants f ws) y)
pack_sort k f w ws m =
    let q = in_kind k w f m in
    subst (λ (n : List Want). (y : All (shut f (parts f) (n ++ ws))) → Packed (sort_of k) w ws (printed (shut f (parts f) (n ++ ws)) y)) (sym (inner f k q.1).0)
    (λ y. pack_kind k f w ws q.0 q.1 y)

in_first : (w : List ℕ) (f : Form) (l : List (List ℕ × Form)) (v : List ℕ) (g : Form) → In w f ((v, g) ∷ l) → ((w ≡ v) × (f ≡ g)) ⊎ In w f l
in_first w f l v g here = inl (refl, refl)
in_first w f l v g (there m) = inr m

station : (ws : List Want) (y : All (wants Station ws)) → (x : All (item First ∷ ws)) × (printed (item First ∷ ws) x ≡ spelling Station ++ printed (wants Station ws) y)
station ws y =
    let h : Counts = record { gauges = y.0.0; gates = y.1.0.0 } in
    let l : Lines = y.1.1.0 in (
      (
        (
          (record {
            prog = record { stations = h ∷ l.prog.stations; start = l.prog.start; main = l.prog.main };
            main = l.main;
            start = l.start;
            stations = ((y.0.1, (y.1.0.1, tt)), l.stations);
          }),
          omega arith,
        ),
        y.1.1.1,
      ),
      refl,
    )

run : (ws : List Want) (y : All (wants Run ws)) → (x : All (item Further ∷ ws)) × (printed (item Further ∷ ws) x ≡ spelling Run ++ printed (wants Run ws) y)
run ws y =
    let t : Tree term = y.1.0 in
    ((record { prog = record { stations = []; start = y.0.0; main = form t.head t.body none }; main = (t.sort, t.fit, tt); start = y.0.1; stations = tt }, y.1.1), refl)

pack_first : (f : Form) (w : List ℕ) (ws : List Want) → In w f (words First) → (y : All (wants f ws)) → Packed First w ws (printed (wants f ws) y)
pack_first f w ws m = ⊎_elim
    (λ (q : (w ≡ spelling Station) × (f ≡ Station)).
    subst (λ (g : Form). (y : All (wants g ws)) → Packed First w ws (printed (wants g ws) y)) (sym q.1)
    (λ y. let s = station ws y in (s.0, s.1 ∙ ap (λ (l : List ℕ). l ++ printed (wants Station ws) y) (sym q.0))))
    (λ (n : In w f []). elim n [ ])
    (in_first w f [] (spelling Station) Station m)

pack_further : (f : Form) (w : List ℕ) (ws : List Want) → In w f (words Further) → (y : All (wants f ws)) → Packed Further w ws (printed (wants f ws) y)
pack_further f w ws m = ⊎_elim
    (λ (q : (w ≡ spelling Station) × (f ≡ Station)).
    subst (λ (g : Form). (y : All (wants g ws)) → Packed Further w ws (printed (wants g ws) y)) (sym q.1)
    (λ y. let s = station ws y in ((s.0.0.0, s.0.1), s.1 ∙ ap (λ (l : List ℕ). l ++ printed (wants Station ws) y) (sym q.0))))
    (λ (n : In w f ((spelling Run, Run) ∷ [])). ⊎_elim
    (λ (q : (w ≡ spelling Run) × (f ≡ Run)).
    subst (λ (g : Form). (y : All (wants g ws)) → Packed Further w ws (printed (wants g ws) y)) (sym q.1)
    (λ y. let s = run ws y in (s.0, s.1 ∙ ap (λ (l : List ℕ). l ++ printed (wants Run ws) y) (sym q.0))))
    (λ (o : In w f []). elim o [ ])
    (in_first w f [] (spelling Run) Run n))
    (in_first w f ((spelling Run, Run) ∷ []) (spelling Station) Station m)

pack : (o : Sort) (f : Form) (w : List ℕ) (ws : List Want) → In w f (words o) → (y : All (wants f ws)) → Packed o w ws (printed (wants f ws) y)
pack Types f w ws m y = pack_sort type f w ws m y
pack Worlds f w ws m y = pack_sort world f w ws m y
pack Terms f w ws m y = pack_sort term f w ws m y
pack First f w ws m y = pack_first f w ws m y
pack Further f w ws m y = pack_further f w ws m y

gather : {ws : List Want} (t : Text ws) → Plain ws → (x : All ws) × (printed ws x ≡ shown t)
gather end p = (tt, refl)
gather (past a t) p = let g = gather t p in (g.0, ap (λ (l : List ℕ). byte a ∷ l) g.1)
gather (nought {ws} k a t) p =
    let g = gather t p in
    (((0, omega arith), g.0), ap (λ (l : List ℕ). l ++ byte a ∷ printed ws g.0) (decimal_digit 0 (omega arith)) ∙ ap (λ (l : List ℕ). 48 ∷ byte a ∷ l) g.1)
gather (some {ws} k a c ds h n hs l t) p =
    let g = gather t p in
    (((valued (c - 48) ds, l), g.0), ap (λ (x : List ℕ). x ++ byte a ∷ printed ws g.0) (back c ds h n hs l) ∙ ap (λ (x : List ℕ). c ∷ ds ++ byte a ∷ x) g.1)
gather (rest k q v a ds hs l t) p = absurd p
gather (pick {ws} o b d w f m t) p =
    let g = gather t (plain_wants f ws p) in
    let x = pack o f (b ∷ d ∷ w) ws m g.0 in
    (x.0, x.1 ∙ ap (λ (l : List ℕ). b ∷ d ∷ w ++ l) g.1)
gather (spell o ks h b w f m t) p = absurd p

-- the program of a text
pub gathered : (t : Text (item First ∷ [])) → (p : Prog) × (Right p × (print p ≡ shown t))
gathered t =
    let g = gather t tt in
    let l : Lines = g.0.0.0 in
    (l.prog, (record { main = l.main; start = l.start; some = g.0.0.1; stations = l.stations }, g.1))
