-- Tables that only grow at their end.
use Rattle.std.proofs.Common.{◌≡◌, ℕ, zero, suc, ◌+◌, ◌<◌, ◌≤◌, List, [], ◌∷◌, ◌++◌, map, length, get_or, sym, refl, ap, ◌∙◌, subst, append_assoc, append-nil, add-zero, zero-add, arith, length-append}
use mathlib.Core.Option.{some, none as nothing, none-ne-some}
use lib.ListN.{get_elem?}
use Rattle.machine.specs.Grow.{grow}
use Rattle.machine.specs.Sound.{Each}
use Rattle.machine.specs.Store.{reads}
use Rattle.std.specs.List.{slice_get}

module _ {A : Type 0} where
  pub elem_read : (xs : List A) (n i : ℕ) (x : A) → n ≡ length xs → i < n → x ≡ get_or xs i x → get_elem? xs i ≡ some x
  elem_read [] n i x l h e = absurd (omega arith)
  elem_read (y ∷ xs) n zero x l h e = ap some (sym e)
  elem_read (y ∷ xs) n (suc i) x l h e = elem_read xs (length xs) i x refl (omega arith) e

  pub elem_getD : (xs : List A) (i : ℕ) (d : A) → i < length xs → get_elem? xs i ≡ some (get_or xs i d)
  elem_getD [] i d h = absurd (omega arith)
  elem_getD (y ∷ xs) zero d h = refl
  elem_getD (y ∷ xs) (suc i) d h = elem_getD xs i d (omega arith)

  -- what the code reads at a place, as the calculus writes it
  pub elem_get : (xs : List A) (i : ℕ) → reads (slice_get xs i) ≡ get_elem? xs i
  elem_get [] zero = refl
  elem_get [] (suc i) = refl
  elem_get (y ∷ xs) zero = refl
  elem_get (y ∷ xs) (suc i) = elem_get xs i

  pub elem_past : (xs : List A) (i : ℕ) → length xs ≤ i → get_elem? xs i ≡ nothing
  elem_past [] i h = refl
  elem_past (y ∷ xs) zero h = absurd (omega arith)
  elem_past (y ∷ xs) (suc i) h = elem_past xs i (omega arith)

  pub elem_below : (xs : List A) (i : ℕ) (x : A) → get_elem? xs i ≡ some x → i < length xs
  elem_below [] i x e = absurd (none-ne-some x e)
  elem_below (y ∷ xs) zero x e = omega arith
  elem_below (y ∷ xs) (suc i) x e = let h = elem_below xs i x e in omega arith

  pub elem_default : (xs : List A) (i : ℕ) (x d : A) → get_elem? xs i ≡ some x → get_or xs i d ≡ x
  elem_default [] i x d e = absurd (none-ne-some x e)
  elem_default (y ∷ xs) zero x d e = cc
  elem_default (y ∷ xs) (suc i) x d e = elem_default xs i x d e

  pub default_left : (xs ys : List A) (i : ℕ) (d : A) → i < length xs → get_or (xs ++ ys) i d ≡ get_or xs i d
  default_left [] ys i d h = absurd (omega arith)
  default_left (x ∷ xs) ys zero d h = refl
  default_left (x ∷ xs) ys (suc i) d h = default_left xs ys i d (omega arith)

  pub default_here : (xs : List A) (x d : A) → get_or (xs ++ x ∷ []) (length xs) d ≡ x
  default_here [] x d = refl
  default_here (y ∷ xs) x d = default_here xs x d

  pub each_push : (P : ℕ → A → Type 0) (xs : List A) (x : A) → Each P xs → P (length xs) x → Each P (xs ++ x ∷ [])
  each_push P [] x all h zero y e = let q : x ≡ y = cc in subst (P 0) q h
  each_push P [] x all h (suc i) y e = absurd (none-ne-some y e)
  each_push P (z ∷ xs) x all h zero y e = all zero y e
  each_push P (z ∷ xs) x all h (suc i) y e = each_push (λ k. P (suc k)) xs x (λ k w q. all (suc k) w q) h i y e

module _ {C M : Type 0} (f : List M → C → M) where
  pub grow_push : (done : List M) (cs : List C) (c : C) → grow f done (cs ++ c ∷ []) ≡ grow f done cs ++ f (grow f done cs) c ∷ []
  grow_push done [] c = refl
  grow_push done (b ∷ cs) c = grow_push (done ++ f done b ∷ []) cs c

  pub grow_length : (done : List M) (cs : List C) → length (grow f done cs) ≡ length done + length cs
  grow_length done [] = omega arith
  grow_length done (c ∷ cs) = let h = grow_length (done ++ f done c ∷ []) cs in let k = length-append done (f done c ∷ []) in omega arith

  -- what came first stays
  grow_keeps : (done : List M) (cs : List C) (i : ℕ) (d : M) → i < length done → get_or (grow f done cs) i d ≡ get_or done i d
  grow_keeps done [] i d h = refl
  grow_keeps done (c ∷ cs) i d h =
      let k = length-append done (f done c ∷ []) in
      grow_keeps (done ++ f done c ∷ []) cs i d (omega arith) ∙ default_left done (f done c ∷ []) i d h

  grow_extends : (done : List M) (cs : List C) → (rest : List M) × (grow f done cs ≡ done ++ rest)
  grow_extends done [] = ([], sym (append-nil done))
  grow_extends done (c ∷ cs) =
      let r = grow_extends (done ++ f done c ∷ []) cs in
      (f done c ∷ r.0, r.1 ∙ append_assoc done (f done c ∷ []) r.0)

-- entries that do not see the change mean the same
pub grow_same : {C M : Type 0} (f g : List M → C → M) (done : List M) (cs : List C) → ((i : ℕ) (c : C) (ms : List M) → get_elem? cs i ≡ some c → f ms c ≡ g ms c) → grow f done cs ≡ grow g done cs
grow_same f g done [] same = refl
grow_same f g done (c ∷ cs) same =
    rw (same 0 c done refl) (grow_same f g (done ++ g done c ∷ []) cs (λ i b ms e. same (suc i) b ms e))

pub map_same : {A B : Type 0} (f g : A → B) (xs : List A) → ((i : ℕ) (x : A) → get_elem? xs i ≡ some x → f x ≡ g x) → map f xs ≡ map g xs
map_same f g [] same = refl
map_same f g (x ∷ xs) same = rw (same 0 x refl, map_same f g xs (λ i y e. same (suc i) y e))

module _ {C M : Type 0} (f : List M → C → M) (In : ℕ → C → Type 0) (stays : (ms ns : List M) (c : C) → In (length ms) c → f (ms ++ ns) c ≡ f ms c) where
  read_from : (done : List M) (cs : List C) (i : ℕ) (c : C) (d : M) → ((k : ℕ) (b : C) → get_elem? cs k ≡ some b → In (length done + k) b) → get_elem? cs i ≡ some c → get_or (grow f done cs) (length done + i) d ≡ f (grow f done cs) c
  read_from done [] i c d all e = absurd (none-ne-some c e)
  read_from done (b ∷ cs) zero c d all e =
      let more = done ++ f done b ∷ [] in
      let x = grow_extends f more cs in
      let same : b ≡ c = cc in
      let long = length-append done (f done b ∷ []) in
      let at : get_or (grow f more cs) (length done) d ≡ f done b = grow_keeps f more cs (length done) d (omega arith) ∙ default_here done (f done b) d in
      let in_b : In (length done) b = rw (← add-zero (length done)) (all 0 b refl) in
      let whole : grow f more cs ≡ done ++ (f done b ∷ x.0) = x.1 ∙ append_assoc done (f done b ∷ []) x.0 in
      let st = stays done (f done b ∷ x.0) b in_b in
      rw (add-zero (length done)) (at ∙ (sym st ∙ ap (λ w. f w b) (sym whole) ∙ ap (f (grow f more cs)) same))
  read_from done (b ∷ cs) (suc i) c d all e =
      let more = done ++ f done b ∷ [] in
      let long = length-append done (f done b ∷ []) in
      let shift : (k : ℕ) → length more + k ≡ length done + suc k = λ k. omega arith in
      let r = read_from more cs i c d (λ k a h. rw (shift k) (all (suc k) a h)) e in
      rw (shift i) at r

  -- an entry means what it means over the whole table
  pub grow_read : (cs : List C) (i : ℕ) (c : C) (d : M) → Each In cs → get_elem? cs i ≡ some c → get_or (grow f [] cs) i d ≡ f (grow f [] cs) c
  grow_read cs i c d all e = rw zero-add at (read_from [] cs i c d (λ k b h. rw zero-add (all k b h)) e)
