-- The text of a survey, cut at a gauge or at a site.
use Rattle.std.proofs.Common.{◌≡◌, ℕ, suc, ◌+◌, ◌<◌, List, [], ◌∷◌, ◌++◌, length, get_or, take, drop, Some, None, Option, sym, refl, ap, ◌∙◌, add-zero, arith, lt-ltb}
use Rattle.std.proofs.lemmas.List.{append_assoc, append-nil, take-append-drop, take_more, length-take-le, at_drop_more}
use Rattle.std.specs.Result.{result_ok}
use Rattle.instruments.specs.Registers.{Shown, site_row, heard, row_asked}
use Rattle.instruments.specs.Surveys.{gauge_line, site_text, sites_text}

site_text_append : (s g : ℕ) (xs ys : List (Option ℕ)) → site_text s g (xs ++ ys) ≡ site_text s g xs ++ site_text s (g + length xs) ys
site_text_append s g [] ys = rw add-zero
site_text_append s g (x ∷ xs) ys =
    let e : g + suc (length xs) ≡ g + 1 + length xs = omega arith in
    rw (site_text_append s (g + 1) xs ys, e) (sym (append_assoc (gauge_line s g x) (site_text s (g + 1) xs) (site_text s (g + 1 + length xs) ys)))

sites_text_append : (s : ℕ) (rs qs : Shown) → sites_text s (rs ++ qs) ≡ sites_text s rs ++ sites_text (s + length rs) qs
sites_text_append s [] qs = rw add-zero
sites_text_append s (r ∷ rs) qs =
    let e : s + suc (length rs) ≡ s + 1 + length rs = omega arith in
    rw (sites_text_append (s + 1) rs qs, e) (sym (append_assoc (site_text s 0 r) (sites_text (s + 1) rs) (sites_text (s + 1 + length rs) qs)))

-- the lines before gauge n, its line, and those behind it
pub gauge_cut : (s n : ℕ) (xs : List (Option ℕ)) → n < length xs → site_text s 0 xs ≡ site_text s 0 (take n xs) ++ (gauge_line s n (get_or xs n None) ++ site_text s (n + 1) (drop (n + 1) xs))
gauge_cut s n xs h =
    let e : 0 + length (take n xs) ≡ n = omega (arith, length-take-le n xs (omega arith)) in
    ap (λ (l : List (Option ℕ)). site_text s 0 l) (sym (take-append-drop n xs)) ∙ site_text_append s 0 (take n xs) (drop n xs)
    ∙ ap (λ k. site_text s 0 (take n xs) ++ site_text s k (drop n xs)) e
    ∙ ap (λ (l : List ℕ). site_text s 0 (take n xs) ++ l) (at_drop_more (λ l. site_text s n l) xs n None h)

pub gauge_more : (s n : ℕ) (xs : List (Option ℕ)) → n < length xs → site_text s 0 (take (n + 1) xs) ≡ site_text s 0 (take n xs) ++ gauge_line s n (get_or xs n None)
gauge_more s n xs h =
    let e : 0 + length (take n xs) ≡ n = omega (arith, length-take-le n xs (omega arith)) in
    rw (take_more xs n None h, site_text_append s 0 (take n xs) (get_or xs n None ∷ []), e, append-nil (gauge_line s n (get_or xs n None)))

-- the lines before site n, its own, and those behind it
pub site_cut : (n : ℕ) (rs : Shown) → n < length rs → sites_text 0 rs ≡ sites_text 0 (take n rs) ++ (site_text n 0 (site_row rs n) ++ sites_text (n + 1) (drop (n + 1) rs))
site_cut n rs h =
    let e : 0 + length (take n rs) ≡ n = omega (arith, length-take-le n rs (omega arith)) in
    ap (λ (l : Shown). sites_text 0 l) (sym (take-append-drop n rs)) ∙ sites_text_append 0 (take n rs) (drop n rs)
    ∙ ap (λ k. sites_text 0 (take n rs) ++ sites_text k (drop n rs)) e
    ∙ ap (λ (l : List ℕ). sites_text 0 (take n rs) ++ l) (at_drop_more (λ l. sites_text n l) rs n [] h)

pub site_more : (n : ℕ) (rs : Shown) → n < length rs → sites_text 0 (take (n + 1) rs) ≡ sites_text 0 (take n rs) ++ site_text n 0 (site_row rs n)
site_more n rs h =
    let e : 0 + length (take n rs) ≡ n = omega (arith, length-take-le n rs (omega arith)) in
    rw (take_more rs n [] h, sites_text_append 0 (take n rs) (get_or rs n [] ∷ []), e, append-nil (site_text n 0 (get_or rs n [])))

okPart_heard : (s n : ℕ) (o : Option ℕ) → result_ok (heard s n o) ≡ o
okPart_heard s n None = refl
okPart_heard s n (Some v) = refl

-- what a fitted register answers, as an option, is what it shows
pub okPart_asked : (xs : List (Option ℕ)) (s n : ℕ) → n < length xs → result_ok (row_asked xs s n) ≡ get_or xs n None
okPart_asked xs s n h = rw (lt-ltb n (length xs) h) (okPart_heard s n (get_or xs n None))
