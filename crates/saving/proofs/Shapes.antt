-- The shapes of a changed page, by rows: a page patched, its entries from one on with another key, an entry gone; the two halves of a full
-- leaf with a record more; and pages in number order. Assumes nothing.
use Prim.Native.Nat.{ℕ, zero, suc, ◌+◌, ◌-◌, ◌≤◌, ◌<◌}
use native.Mathlib.Nat.{not-suc-le-zero, mul-le-mul_left, zero-add}
use native.Mathlib.Numerals.{add-one}
use native.Mathlib.Omega.{arith}
use mathlib.Core.Path.{◌≡◌, refl, ap, ◌∙◌}
use mathlib.Core.Bool.{true}
use mathlib.Core.List.{List, [], ◌∷◌, ◌++◌}
use lib.ListN.{length, take, drop, get_or, length-drop, get_or-append}
use lib.Seq.{take_all, drop-cons, length-take-le, take-append-le, drop-append-le, drop_at, take-take, take-add, drop-drop, take-append-add, drop-append-add, get_or_at, get_or-append-add, get_or-take, get_or-drop}
use borrow.Author.Tests.{lt-ltb, le-ltb}
use Rattle.field.specs.Test.{pick}
use Rattle.field.proofs.Test.{pick_true, pick-false}
use Rattle.page.specs.Page.{key_of, to_page, entry, spare, count, rows}
use Rattle.page.specs.Pages.{page, pages}
use Rattle.page.proofs.Rows.{length-rows}
use Rattle.page.proofs.Pages.{get_or-pages}
use Rattle.saving.specs.Save.{Sheet, rewritten, insert, in_order, lowered, closed}
use Rattle.field.specs.declared.PageNo.{PageNo}
use Rattle.saving.specs.Draft.{with_at, run, inserted, spare_of, sheet_of, Patch, Draws}
use Rattle.saving.specs.declared.draft.More.{More}

-- ---- runs of a page

module _ (sz p : ℕ) (w : List ℕ) (small : p < 64) where
  pub run-front : (i : ℕ) → run sz p 0 i (pages w) ≡ take i (rows sz (page p w))
  unfolding run
  run-front i = rw (get_or-pages p w small)

  pub run-to : (k n : ℕ) → run sz p k n (pages w) ≡ take n (drop k (rows sz (page p w)))
  unfolding run
  run-to k n = rw (get_or-pages p w small)

  pub run-back : (k n : ℕ) → n ≡ count (page p w) → run sz p k (n - k) (pages w) ≡ drop k (rows sz (page p w))
  run-back k n e =
      run-to k (n - k) ∙ take_all (n - k) (drop k (rows sz (page p w))) (rw (length-drop k (rows sz (page p w)), length-rows sz (page p w)) (omega arith))

pub spare-kept : (p : ℕ) (ps : List (List ℕ)) → spare_of true p ps ≡ spare (get_or ps p [])
unfolding spare_of pick
spare-kept p ps = refl

-- a page patched
pub patched-draws : (w : List ℕ) (p : PageNo) (sign size i : ℕ) (more : More) (k n : ℕ) → p.0 < 64 → Patch size w p.0 i more k → n ≡ count (page p.0 w)
    → Draws w
    (record { page = p; sign = sign; kept = true; size = size; source = p; from = 0; many = i; more = more; next = k; rest = n - k })
    (λ r. rewritten (pages w) p.0 sign (take i (rows size (page p.0 w)) ++ (inserted r more ++ drop k (rows size (page p.0 w)))))
unfolding sheet_of
patched-draws w p sign size i more k n small z e =
    let all : k + (n - k) ≡ n = omega (arith, z.high) in
    record {
      same = λ r. rw (run-front size p.0 w small i, run-back size p.0 w small k n e, spare-kept p.0 (pages w));
      ready = record {
        inside = small;
        source = small;
        front = record { there = omega (arith, z.low); fits = rw (zero-add i) (omega (arith, z.fits, mul-le-mul_left size z.low)) };
        suits = z.suits;
        back = record { there = omega (arith, z.high); fits = rw (all, e) z.fits };
        room = rw e z.room;
        few = rw e z.few;
      };
    }

-- ---- entries joined

-- the first entry of those from the i-th on with another key
pub lowered-from : (key i : ℕ) (es : List (List ℕ)) → i < length es → lowered key (drop i es) ≡ entry key (to_page (get_or es i [])) ∷ drop (i + 1) es
unfolding lowered
lowered-from key i es h = rw (drop-cons es i [] h, add-one i)

-- the entry i gone, where one stands before it
pub closed-left : (i : ℕ) (e : List ℕ) (es post : List (List ℕ)) → 0 < i → i < length es → closed (take i es) e post ≡ take i es ++ post
unfolding closed
closed-left zero e es post h k = absurd (not-suc-le-zero h)
closed-left (suc i) e [] post h k = absurd (not-suc-le-zero k)
closed-left (suc i) e (x ∷ es) post h k = refl

-- the first one gone
pub closed-right : (e : List ℕ) (es post : List (List ℕ)) → closed (take 0 es) e post ≡ lowered (key_of e) post
unfolding closed
closed-right e es post = refl

-- the only one gone
pub closed-only : (e : List ℕ) (es : List (List ℕ)) → length es ≡ 1 → closed (take 0 es) e (drop 1 es) ≡ take 0 es ++ drop 1 es
unfolding closed lowered
closed-only e [] h = refl
closed-only e (x ∷ []) h = refl
closed-only e (x ∷ y ∷ es) h = absurd (let z : ⊥ = omega arith in z)

-- ---- the halves of 16 records, one of which comes in place i

module _ (i : ℕ) (r : List ℕ) (rs : List (List ℕ)) (full : length rs ≡ 15) where
  front_length : i ≤ 15 → length (take i rs) ≡ i
  front_length h = length-take-le i rs (omega arith)

  pub lower-new : i < 8 → take 8 (with_at i r rs) ≡ take i rs ++ (r ∷ take (7 - i) (drop i rs))
  unfolding with_at
  lower-new h =
      let l : length (take i rs) ≡ i = front_length (omega arith) in
      let e : 8 ≡ length (take i rs) + suc (7 - i) = omega arith in
      ap (λ (n : ℕ). take n (take i rs ++ (r ∷ drop i rs))) e ∙ take-append-add (take i rs) (r ∷ drop i rs) (suc (7 - i))

  pub lower-old : 8 ≤ i → i ≤ 15 → take 8 (with_at i r rs) ≡ take 8 rs
  unfolding with_at
  lower-old h k = take-append-le 8 (take i rs) (r ∷ drop i rs) (rw (front_length k) h) ∙ take-take 8 i rs h

  pub upper-old : i < 8 → drop 8 (with_at i r rs) ≡ drop 7 rs
  unfolding with_at
  upper-old h =
      let l : length (take i rs) ≡ i = front_length (omega arith) in
      let e : 8 ≡ length (take i rs) + suc (7 - i) = omega arith in
      let f : i + (7 - i) ≡ 7 = omega arith in
      ap (λ (n : ℕ). drop n (take i rs ++ (r ∷ drop i rs))) e ∙ drop-append-add (take i rs) (r ∷ drop i rs) (suc (7 - i))
      ∙ drop-drop (7 - i) i rs ∙ ap (λ (n : ℕ). drop n rs) f

  pub upper-new : 8 ≤ i → i ≤ 15 → drop 8 (with_at i r rs) ≡ take (i - 8) (drop 8 rs) ++ (r ∷ drop i rs)
  unfolding with_at
  upper-new h k = drop-append-le 8 (take i rs) (r ∷ drop i rs) (rw (front_length k) h) ∙ ap (λ (l : List (List ℕ)). l ++ (r ∷ drop i rs)) (drop-take h)
    where
      drop-take : 8 ≤ i → drop 8 (take i rs) ≡ take (i - 8) (drop 8 rs)
      drop-take g =
          let e : i ≡ 8 + (i - 8) = omega arith in
          ap (λ (n : ℕ). drop 8 (take n rs)) e
          ∙ rw (take-add 8 (i - 8) rs) (drop_at (take 8 rs) (take (i - 8) (drop 8 rs)) 8 (length-take-le 8 rs (omega arith)))

  -- the ninth record
  pub ninth-old : i < 8 → get_or (with_at i r rs) 8 [] ≡ get_or rs 7 []
  unfolding with_at
  ninth-old h =
      let l : length (take i rs) ≡ i = front_length (omega arith) in
      let e : 8 ≡ length (take i rs) + suc (7 - i) = omega arith in
      let f : i + (7 - i) ≡ 7 = omega arith in
      ap (λ (n : ℕ). get_or (take i rs ++ (r ∷ drop i rs)) n []) e ∙ get_or-append-add (take i rs) (r ∷ drop i rs) (suc (7 - i)) []
      ∙ get_or-drop i rs (7 - i) [] ∙ ap (λ (n : ℕ). get_or rs n []) f

  pub ninth-new : i ≡ 8 → get_or (with_at i r rs) 8 [] ≡ r
  unfolding with_at
  ninth-new h = get_or_at (take i rs) r (drop i rs) [] 8 (front_length (omega arith) ∙ h)

  pub ninth-front : 8 < i → i ≤ 15 → get_or (with_at i r rs) 8 [] ≡ get_or rs 8 []
  unfolding with_at
  ninth-front h k = get_or-append (take i rs) (r ∷ drop i rs) [] 8 (rw (front_length k) h) ∙ get_or-take i rs 8 [] h

-- ---- number order

module _ (x : Sheet) where
  insert-nil : insert x [] ≡ x ∷ []
  unfolding insert
  insert-nil = refl

  insert-front : (y : Sheet) (ys : List Sheet) → x.at < y.at → insert x (y ∷ ys) ≡ x ∷ y ∷ ys
  unfolding insert
  insert-front y ys h = pick_true _ _ _ (lt-ltb x.at y.at h)

  insert-on : (y : Sheet) (ys : List Sheet) → y.at ≤ x.at → insert x (y ∷ ys) ≡ y ∷ insert x ys
  unfolding insert
  insert-on y ys h = pick-false _ _ _ (le-ltb x.at y.at h)

pub order-two : (x y : Sheet) → x.at < y.at → in_order (x ∷ y ∷ []) ≡ x ∷ y ∷ []
unfolding in_order
order-two x y h = rw (insert-nil y) (insert-front x y [] h)

pub order-three : (x y z : Sheet) → x.at < y.at → y.at < z.at → in_order (x ∷ y ∷ z ∷ []) ≡ x ∷ y ∷ z ∷ []
unfolding in_order
order-three x y z h k = rw (insert-nil z, insert-front y z [] k) (insert-front x y (z ∷ []) h)

pub order-swap : (x y z : Sheet) → x.at < z.at → z.at ≤ y.at → in_order (x ∷ y ∷ z ∷ []) ≡ x ∷ z ∷ y ∷ []
unfolding in_order
order-swap x y z h k = rw (insert-nil z, insert-on y z [] k, insert-nil y) (insert-front x z (y ∷ []) h)

-- the last one stands before the third
pub order-four : (x y z f : Sheet) → x.at < y.at → y.at < f.at → f.at < z.at → in_order (x ∷ y ∷ z ∷ f ∷ []) ≡ x ∷ y ∷ f ∷ z ∷ []
unfolding in_order
order-four x y z f h k l =
    rw (insert-nil f, insert-on z f [] (omega arith), insert-nil z, insert-front y f (z ∷ []) k) (insert-front x y (f ∷ z ∷ []) h)

pub order-four-swap : (x y z f : Sheet) → x.at < f.at → f.at ≤ y.at → y.at < z.at → in_order (x ∷ y ∷ z ∷ f ∷ []) ≡ x ∷ f ∷ y ∷ z ∷ []
unfolding in_order
order-four-swap x y z f h k l =
    rw (insert-nil f, insert-on z f [] (omega arith), insert-nil z, insert-on y f (z ∷ []) k, insert-front y z [] l) (insert-front x f (y ∷ z ∷ []) h)
