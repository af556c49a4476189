-- One level of a tree, changed by a put or a delete: a page gets other items; a page is split, its upper items going under an entry of their
-- own; a page is emptied, its entry's range joining the one before it or the one behind it. Assumes nothing.
use Prim.Native.Nat.{ℕ, suc, ◌+◌, ◌*◌, ◌≤◌}
use native.Mathlib.Omega.{arith}
use mathlib.Core.Path.{◌≡◌, refl, sym, ap, ◌∙◌, fun_ext, subst}
use mathlib.Core.Logic.{◌≢◌, ⊎_elim}
use mathlib.Core.Bool.{cond}
use mathlib.Core.List.{List, [], ◌∷◌, ◌++◌, append_assoc, map-append}
use borrow.Author.Tests.{eq-eqb, ne_eqb}
use lib.Dec.{eqb}
use Rattle.tidy.proofs.Model.{Entry, Ascends, pointers, full, marks, trail, Well, beneath, upd}
use Rattle.tidy.proofs.Trail.{eq?, drop-many, back, hit, pointers-append, full≤, trail-append, beneath-append, trail-but, beneath-but, bound}

-- other numbers behind one that stays
regrow : (lo : ℕ) (xs : List ℕ) (y : ℕ) (ys zs : List ℕ) → Ascends lo (xs ++ y ∷ ys) → Ascends (suc y) zs → Ascends lo (xs ++ y ∷ zs)
regrow lo [] y ys zs a b = (a.0, b)
regrow lo (x ∷ xs) y ys zs a b = (a.0, regrow (suc x) xs y ys zs a.1 b)

-- another value at p: there, and elsewhere
module _ {A : Type 0} (f : ℕ → A) (p : ℕ) (a : A) where
  pub upd-at : upd f p a p ≡ a
  upd-at = rw (eq-eqb p p refl)

  pub upd-off : (q : ℕ) → q ≢ p → upd f p a q ≡ f q
  upd-off q d = rw (ne_eqb q p d)

-- two values in either order
pub upd-swap : {A : Type 0} (f : ℕ → A) (p q : ℕ) (a b : A) → p ≢ q → upd (upd f p a) q b ≡ upd (upd f q b) p a
upd-swap f p q a b d =
    fun_ext (λ i. ⊎_elim (λ (e : i ≡ p). rw (eq-eqb i p e, ne_eqb i q (λ k. d (sym e ∙ k)))) (λ (n : i ≢ p). rw (ne_eqb i p n)) (eq? i p))

-- ---- a level with the entry x in its midst

module _ {Item : Type 0} (key : Item → ℕ) (f : ℕ → List Item) (pre : List Entry) (x : Entry) (post : List Entry)
    (w : Well key f (pre ++ x ∷ post)) where
  -- the pointers to page p
  counts : (p : ℕ) → pointers p pre + (cond (eqb x.page p) 1 0 + pointers p post) ≡ full (f p)
  counts p = sym (pointers-append p pre (x ∷ post)) ∙ w.pointed p

  -- its page is pointed to from nowhere else
  own : pointers x.page pre + (1 + pointers x.page post) ≡ full (f x.page)
  own = rw (hit x) at (counts x.page)

  pub none_before : pointers x.page pre ≡ 0
  none_before = omega (arith, own, full≤ (f x.page))

  pub none-behind : pointers x.page post ≡ 0
  none-behind = omega (arith, own, full≤ (f x.page))

  pub own-full : full (f x.page) ≡ 1
  own-full = omega (arith, own, full≤ (f x.page))

  -- the trail from the entry on
  pub from-entry : Ascends 0 (trail key f pre ++ 2 * x.key ∷ (marks key (f x.page) ++ trail key f post))
  from-entry = rw (trail-append key f pre (x ∷ post)) at w.ascends

  pub behind-entry : Ascends (suc (2 * x.key)) (marks key (f x.page) ++ trail key f post)
  behind-entry = (back 0 (trail key f pre) (2 * x.key ∷ (marks key (f x.page) ++ trail key f post)) from-entry).1

  -- ---- other items on the page

  module _ (is : List Item) where
    abbrev g : ℕ → List Item
    g = upd f x.page is

    off-page : (q : ℕ) → q ≢ x.page → upd f x.page is q ≡ f q
    off-page q d = upd-off f x.page is q d

    trail-before : trail key g pre ≡ trail key f pre
    trail-before = trail-but key f x.page g off-page pre none_before

    trail-behind : trail key g post ≡ trail key f post
    trail-behind = trail-but key f x.page g off-page post none-behind

    beneath-before : beneath g pre ≡ beneath f pre
    beneath-before = beneath-but x.page g f off-page pre none_before

    beneath-behind : beneath g post ≡ beneath f post
    beneath-behind = beneath-but x.page g f off-page post none-behind

    pub refill-pointed : full is ≡ 1 → (p : ℕ) → pointers p (pre ++ x ∷ post) ≡ full (upd f x.page is p)
    refill-pointed h p =
        ⊎_elim
        (λ (e : p ≡ x.page). rw e (w.pointed x.page ∙ own-full ∙ sym h ∙ sym (ap full (upd-at f x.page is))))
        (λ (d : p ≢ x.page). w.pointed p ∙ sym (ap full (off-page p d)))
        (eq? p x.page)

    pub refill-well : full is ≡ 1 → Ascends (suc (2 * x.key)) (marks key is ++ trail key f post) → Well key (upd f x.page is) (pre ++ x ∷ post)
    refill-well h a =
        record {
          ascends = rw (trail-append key g pre (x ∷ post), trail-before, trail-behind, upd-at f x.page is)
              (regrow 0 (trail key f pre) (2 * x.key) (marks key (f x.page) ++ trail key f post) (marks key is ++ trail key f post) from-entry a);
          pointed = refill-pointed h;
        }

    pub refill-beneath : beneath (upd f x.page is) (pre ++ x ∷ post) ≡ beneath f pre ++ (is ++ beneath f post)
    refill-beneath = beneath-append g pre (x ∷ post) ∙ rw (beneath-before, beneath-behind, upd-at f x.page is)

  -- ---- the page emptied, its entry gone

  pub gone-pointed : (p : ℕ) → pointers p (pre ++ post) ≡ full (upd f x.page [] p)
  gone-pointed p =
      pointers-append p pre post
      ∙ ⊎_elim
      (λ (e : p ≡ x.page). rw e
      (let z : pointers x.page pre + pointers x.page post ≡ 0 = omega (arith, none_before, none-behind) in
      z ∙ sym (ap full (upd-at f x.page []))))
      (λ (d : p ≢ x.page). let c = rw (ne_eqb x.page p (λ e. d (sym e))) at (counts p) in
      let z : pointers p pre + pointers p post ≡ full (f p) = omega (arith, c) in
      z ∙ sym (ap full (upd-off f x.page [] p d)))
      (eq? p x.page)

  pub gone-well : Well key (upd f x.page []) (pre ++ post)
  gone-well =
      record {
        ascends = rw (trail-append key (g []) pre post, trail-before [], trail-behind [])
            (drop-many 0 (trail key f pre) (2 * x.key ∷ marks key (f x.page)) (trail key f post) from-entry);
        pointed = gone-pointed;
      }

  pub gone-beneath : beneath (upd f x.page []) (pre ++ post) ≡ beneath f pre ++ beneath f post
  gone-beneath = beneath-append (g []) pre post ∙ rw (beneath-before [], beneath-behind [])

  -- ---- the page split: low stays, y and high go under an entry with y's key to the free page q

  module _ (low : List Item) (y : Item) (high : List Item) (is : f x.page ≡ low ++ y ∷ high) (some-low : full low ≡ 1) (q : ℕ) (free : f q ≡ []) where
    abbrev z : Entry
    z = record { key = key y; page = q }

    abbrev less : ℕ → List Item
    less = upd f x.page low

    abbrev h : ℕ → List Item
    h = upd less q (y ∷ high)

    apart : q ≢ x.page
    apart e = let a : full (f q) ≡ 0 = ap full free in let b : full (f q) ≡ 1 = ap (λ (p : ℕ). full (f p)) e ∙ own-full in omega arith

    none_free : (pointers q pre ≡ 0) × (pointers q post ≡ 0)
    none_free =
        let c : pointers q pre + (cond (eqb x.page q) 1 0 + pointers q post) ≡ 0 = counts q ∙ ap full free in (omega arith, omega arith)

    at_x : h x.page ≡ low
    at_x = upd-off less q (y ∷ high) x.page (λ e. apart (sym e)) ∙ upd-at f x.page low

    at-q : h q ≡ y ∷ high
    at-q = upd-at less q (y ∷ high)

    off : (p : ℕ) → p ≢ x.page → p ≢ q → h p ≡ f p
    off p d e = upd-off less q (y ∷ high) p e ∙ upd-off f x.page low p d

    trail-off : (es : List Entry) → pointers x.page es ≡ 0 → pointers q es ≡ 0 → trail key h es ≡ trail key f es
    trail-off es a b =
        trail-but key less q h (λ p e. upd-off less q (y ∷ high) p e) es b ∙ trail-but key f x.page less (λ p d. upd-off f x.page low p d) es a

    beneath-off : (es : List Entry) → pointers x.page es ≡ 0 → pointers q es ≡ 0 → beneath h es ≡ beneath f es
    beneath-off es a b =
        beneath-but q h less (λ p e. upd-off less q (y ∷ high) p e) es b ∙ beneath-but x.page less f (λ p d. upd-off f x.page low p d) es a

    -- the marks of y and of all behind it
    abbrev late : List ℕ
    late = (2 * key y + 1) ∷ (marks key high ++ trail key f post)

    -- the marks of the page, in two parts
    parts : marks key (f x.page) ++ trail key f post ≡ marks key low ++ late
    parts =
        ap (λ (l : List Item). marks key l ++ trail key f post) is
        ∙ ap (λ (l : List ℕ). l ++ trail key f post) (map-append (λ i. 2 * key i + 1) low (y ∷ high))
        ∙ append_assoc (marks key low) ((2 * key y + 1) ∷ marks key high) (trail key f post)

    -- y's key, doubled alone, fits before its mark
    wedge : (lo : ℕ) (l : List Item) → Ascends lo (marks key l ++ late) → lo ≤ 2 * key y → Ascends lo (marks key l ++ 2 * key y ∷ late)
    wedge lo [] a b = (b, (omega arith, a.1))
    wedge lo (i ∷ l) a b =
        let c : suc (2 * key i + 1) ≤ 2 * key y + 1 = bound (suc (2 * key i + 1)) (marks key l) (2 * key y + 1) (marks key high ++ trail key f post) a.1 in
        (a.0, wedge (suc (2 * key i + 1)) l a.1 (omega arith))

    wedged : Ascends (suc (2 * x.key)) (marks key low ++ 2 * key y ∷ late)
    wedged = by-low low some-low (rw parts at behind-entry)
      where
        by-low : (l : List Item) → full l ≡ 1 → Ascends (suc (2 * x.key)) (marks key l ++ late) → Ascends (suc (2 * x.key)) (marks key l ++ 2 * key y ∷ late)
        by-low [] e a = absurd (omega arith)
        by-low (i ∷ l) e a =
            let c : suc (2 * key i + 1) ≤ 2 * key y + 1 = bound (suc (2 * key i + 1)) (marks key l) (2 * key y + 1) (marks key high ++ trail key f post) a.1 in
            wedge (suc (2 * x.key)) (i ∷ l) a (omega (arith, a.0))

    split-pointed : (p : ℕ) → pointers p (pre ++ x ∷ z ∷ post) ≡ full (h p)
    split-pointed p =
        pointers-append p pre (x ∷ z ∷ post)
        ∙ ⊎_elim
        (λ (e : p ≡ q). subst (λ (n : ℕ). pointers n pre + pointers n (x ∷ z ∷ post) ≡ full (h n)) (sym e)
        (let t : pointers q pre + (cond (eqb x.page q) 1 0 + (cond (eqb q q) 1 0 + pointers q post)) ≡ 1 =
        rw (eq-eqb q q refl, ne_eqb x.page q (λ k. apart (sym k))) (omega (arith, none_free)) in
        t ∙ sym (ap full at-q)))
        (λ (d : p ≢ q). let t : pointers p pre + (cond (eqb x.page p) 1 0 + (cond (eqb q p) 1 0 + pointers p post)) ≡ full (f p) =
        rw (ne_eqb q p (λ k. d (sym k))) (omega (arith, counts p)) in
        ⊎_elim
        (λ (e : p ≡ x.page). t ∙ ap (λ (n : ℕ). full (f n)) e ∙ own-full ∙ sym some-low ∙ sym (ap full at_x) ∙ sym (ap (λ (n : ℕ). full (h n)) e))
        (λ (c : p ≢ x.page). t ∙ sym (ap full (off p c d)))
        (eq? p x.page))
        (eq? p q)

    pub split-well : Well key (upd (upd f x.page low) q (y ∷ high)) (pre ++ x ∷ record { key = key y; page = q } ∷ post)
    split-well =
        record {
          ascends = rw (
            trail-append key h pre (x ∷ z ∷ post),
            trail-off pre none_before none_free.0,
            trail-off post none-behind none_free.1,
            at_x,
            at-q,
          )
              (regrow 0 (trail key f pre) (2 * x.key) (marks key (f x.page) ++ trail key f post) (marks key low ++ 2 * key y ∷ late) from-entry wedged);
          pointed = split-pointed;
        }

    pub split-beneath : beneath (upd (upd f x.page low) q (y ∷ high)) (pre ++ x ∷ record { key = key y; page = q } ∷ post) ≡ beneath f (pre ++ x ∷ post)
    split-beneath =
        beneath-append h pre (x ∷ z ∷ post)
        ∙ rw (beneath-off pre none_before none_free.0, beneath-off post none-behind none_free.1, at_x, at-q)
        (sym (beneath-append f pre (x ∷ post) ∙ rw is (ap (λ (l : List Item). beneath f pre ++ l) (append_assoc low (y ∷ high) (beneath f post)))))

-- ---- the page emptied, the entry behind taking its key

module _ {Item : Type 0} (key : Item → ℕ) (f : ℕ → List Item) (pre : List Entry) (x y : Entry) (post : List Entry)
    (w : Well key f (pre ++ x ∷ y ∷ post)) where
  abbrev heir : Entry
  heir = record { key = x.key; page = y.page }

  abbrev rest : ℕ → List Item
  rest = upd f x.page []

  counted : cond (eqb y.page x.page) 1 0 + pointers x.page post ≡ 0
  counted = none-behind key f pre x (y ∷ post) w

  other-page : y.page ≢ x.page
  other-page e = let b = rw (eq-eqb y.page x.page e) at counted in omega (arith, b)

  drop-mid : Ascends 0 (trail key f pre ++ 2 * x.key ∷ (marks key (f x.page) ++ (2 * y.key ∷ (marks key (f y.page) ++ trail key f post))))
      → Ascends 0 (trail key f pre ++ 2 * x.key ∷ (marks key (f y.page) ++ trail key f post))
  drop-mid a =
      rw (append_assoc (trail key f pre)) at
      (drop-many 0 (trail key f pre ++ 2 * x.key ∷ []) (marks key (f x.page) ++ 2 * y.key ∷ []) (marks key (f y.page) ++ trail key f post)
      (rw (append_assoc (trail key f pre), append_assoc (marks key (f x.page))) a))

  pub joined-well : Well key (upd f x.page []) (pre ++ record { key = x.key; page = y.page } ∷ post)
  joined-well =
      record {
        ascends = rw (
          trail-append key rest pre (heir ∷ post),
          trail-before key f pre x (y ∷ post) w [],
          upd-off f x.page [] y.page other-page,
          trail-but key f x.page rest (λ q d. upd-off f x.page [] q d) post (omega (arith, counted)),
        )
            (drop-mid (from-entry key f pre x (y ∷ post) w));
        pointed = λ p. pointers-append p pre (heir ∷ post) ∙ sym (pointers-append p pre (y ∷ post)) ∙ gone-pointed key f pre x (y ∷ post) w p;
      }

  pub joined-beneath : beneath (upd f x.page []) (pre ++ record { key = x.key; page = y.page } ∷ post) ≡ beneath f pre ++ beneath f (y ∷ post)
  joined-beneath =
      beneath-append rest pre (heir ∷ post) ∙ sym (beneath-append rest pre (y ∷ post)) ∙ gone-beneath key f pre x (y ∷ post) w
