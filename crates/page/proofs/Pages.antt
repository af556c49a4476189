-- Laws of 64 pages side by side: reading and replacing one, all of them as a list, a page that the code lends, and their form.
-- Assumes nothing.
use Prim.Native.Nat.{ℕ, zero, suc, ◌+◌, ◌-◌, ◌*◌, ◌≤◌, ◌<◌}
use native.Mathlib.Nat.{add-zero, zero-add, not-suc-le-zero}
use native.Mathlib.Omega.{arith}
use mathlib.Core.Path.{◌≡◌, refl, sym, ap, ◌∙◌}
use mathlib.Core.Logic.{◌⊎◌, inl, inr}
use mathlib.Core.Bool.{true}
use mathlib.Core.List.{List, [], ◌∷◌}
use lib.ListN.{length, take, drop, get_or, set, length-set}
use lib.Seq.{ext_get_or, take_all, get_or-set_same, get_or-set_other}
use borrow.Rule.Slice.PartMut.{put_mid}
use Rattle.field.specs.Bytes.{part, put, Bytes}
use Rattle.field.proofs.Test.{both-1, both-2, both-intro}
use Rattle.field.proofs.Part.{split, length_part, length-put, part-put-same, part-put-other, put-part, put-put, lent-part, back-put}
use Rattle.field.proofs.Byte.{bytes-part, bytes-put}
use Rattle.page.specs.Page.{joined, formed}
use Rattle.page.specs.Pages.{page, put_page, pages, all_formed}
use Rattle.page.proofs.Rows.{length-rows_of, joined-rows_of, get_or-rows_of}

-- ---- one page

pub bytes-page : (p : ℕ) (w : List ℕ) → Bytes w → Bytes (page p w)
unfolding page
bytes-page p w b = bytes-part (256 * p) 256 w b

pub bytes-put_page : (p : ℕ) (pg w : List ℕ) → Bytes pg → Bytes w → Bytes (put_page p pg w)
unfolding put_page
bytes-put_page p pg w a b = bytes-put (256 * p) pg w a b

module _ (p : ℕ) (w : List ℕ) (whole : length w ≡ 16384) (small : p < 64) where
  pub length-page : length (page p w) ≡ 256
  unfolding page
  length-page = length_part (256 * p) 256 w (omega arith)

  pub put_page-page : put_page p (page p w) w ≡ w
  unfolding page put_page
  put_page-page = put-part (256 * p) 256 w (omega arith)

  module _ (pg : List ℕ) (long : length pg ≡ 256) where
    pub length-put_page : length (put_page p pg w) ≡ 16384
    unfolding put_page
    length-put_page = length-put (256 * p) pg w (omega arith) ∙ whole

    pub page-put_page-same : page p (put_page p pg w) ≡ pg
    unfolding page put_page
    page-put_page-same = sym (ap (λ (n : ℕ). part (256 * p) n (put (256 * p) pg w)) long) ∙ part-put-same (256 * p) pg w (omega arith)

    pub page-put_page-other : (q : ℕ) → q < 64 → (q ≡ p → ⊥) → page q (put_page p pg w) ≡ page q w
    unfolding page put_page
    page-put_page-other q h ne =
        let side : (256 * q + 256 ≤ 256 * p) ⊎ (256 * p + length pg ≤ 256 * q) =
        split q p (λ a. inl (omega arith)) (λ a. split p q (λ b. inr (omega arith)) (λ b. absurd (ne (omega arith)))) in
        part-put-other (256 * q) 256 (256 * p) pg w (omega arith) (omega arith) side

    pub put_page-put_page : (pg' : List ℕ) → length pg' ≡ 256 → put_page p pg' (put_page p pg w) ≡ put_page p pg' w
    unfolding put_page
    put_page-put_page pg' long' = put-put (256 * p) pg pg' w (long ∙ sym long') (omega arith)

-- ---- a page that the code lends, `&w[256 * p..256 * p + 256]`, and all pages after it came back as x

pub lent-page : (p : ℕ) (w : List ℕ) → take (256 * p + 256 - 256 * p) (drop (256 * p) w) ≡ page p w
unfolding page
lent-page p w = lent-part (256 * p) 256 w

pub back-page : (p : ℕ) (w x : List ℕ) → length x ≡ 256 → put_mid (256 * p) (256 * p + 256 - 256 * p) w x ≡ put_page p x w
unfolding put_page
back-page p w x e = back-put (256 * p) 256 w x e

pub back-kept : (p : ℕ) (w x : List ℕ) → length w ≡ 16384 → p < 64 → length x ≡ length (take (256 * p + 256 - 256 * p) (drop (256 * p) w))
    → put_mid (256 * p) (256 * p + 256 - 256 * p) w x ≡ put_page p x w
back-kept p w x whole small k = back-page p w x (k ∙ ap length (lent-page p w) ∙ length-page p w whole small)

-- ---- all pages

pub length-pages : (w : List ℕ) → length (pages w) ≡ 64
unfolding pages
length-pages w = length-rows_of 256 64 w

pub get_or-pages : (p : ℕ) (w : List ℕ) → p < 64 → get_or (pages w) p [] ≡ page p w
unfolding pages page
get_or-pages p w h = get_or-rows_of 256 64 p w h

pub joined-pages : (w : List ℕ) → length w ≡ 16384 → joined (pages w) ≡ w
unfolding pages
joined-pages w h = joined-rows_of 256 64 w ∙ take_all 16384 w (omega arith)

-- pages alike one by one are alike
pub pages-ext : (v w : List ℕ) → length v ≡ 16384 → length w ≡ 16384 → ((p : ℕ) → p < 64 → page p v ≡ page p w) → v ≡ w
pages-ext v w hv hw f =
    let e : pages v ≡ pages w = ext_get_or [] (pages v) (pages w) (length-pages v ∙ sym (length-pages w))
    (λ p h. let k : p < 64 = omega (arith, length-pages v) in
    get_or-pages p v k ∙ f p k ∙ sym (get_or-pages p w k)) in
    sym (joined-pages v hv) ∙ ap joined e ∙ joined-pages w hw

pub pages-put_page : (p : ℕ) (pg w : List ℕ) → length w ≡ 16384 → p < 64 → length pg ≡ 256 → pages (put_page p pg w) ≡ set (pages w) p pg
pages-put_page p pg w whole small long =
    let v : List ℕ = put_page p pg w in
    let lw : length (pages w) ≡ 64 = length-pages w in
    let lv : length (pages v) ≡ 64 = length-pages v in
    let other : (q : ℕ) → q < 64 → (q ≡ p → ⊥) → get_or (pages v) q [] ≡ get_or (set (pages w) p pg) q [] =
    λ q h ne. get_or-pages q v h ∙ page-put_page-other p w whole small pg long q h ne ∙ sym (get_or-pages q w h)
    ∙ sym (get_or-set_other (pages w) p q pg [] ne) in
    ext_get_or [] (pages v) (set (pages w) p pg) (lv ∙ sym (length-set (pages w) p pg ∙ lw))
    (λ q h. let k : q < 64 = omega arith in
    split q p
    (λ a. other q k (λ e. omega arith))
    (λ a. split p q
    (λ b. other q k (λ e. omega arith))
    (λ b. let e : q ≡ p = omega arith in
    rw e
    (get_or-pages p v small
    ∙ page-put_page-same p w whole small pg long
    ∙ sym (get_or-set_same (pages w) p pg [] (omega arith))))))

-- ---- their form

pub formed-at : (p i : ℕ) (pgs : List (List ℕ)) → all_formed p pgs ≡ true → i < length pgs → formed (p + i) (get_or pgs i []) ≡ true
unfolding all_formed
formed-at p i [] e h = absurd (not-suc-le-zero h)
formed-at p zero (pg ∷ pgs) e h = rw (add-zero p) (both-1 _ _ e)
formed-at p (suc i) (pg ∷ pgs) e h =
    let q : p + suc i ≡ p + 1 + i = omega arith in
    rw q (formed-at (p + 1) i pgs (both-2 _ _ e) (omega arith))

pub formed-all : (p : ℕ) (pgs : List (List ℕ)) → ((i : ℕ) → i < length pgs → formed (p + i) (get_or pgs i []) ≡ true) → all_formed p pgs ≡ true
unfolding all_formed
formed-all p [] f = refl
formed-all p (pg ∷ pgs) f =
    both-intro _ _ (rw (add-zero p) at (f 0 (omega arith)))
    (formed-all (p + 1) pgs
    (λ i h. let q : p + 1 + i ≡ p + suc i = omega arith in
    rw q (f (suc i) (omega arith))))

pub formed-page : (p : ℕ) (w : List ℕ) → all_formed 0 (pages w) ≡ true → p < 64 → formed p (page p w) ≡ true
formed-page p w e h = rw (zero-add, get_or-pages p w h) at (formed-at 0 p (pages w) e (omega (arith, length-pages w)))

pub formed-pages : (w : List ℕ) → ((p : ℕ) → p < 64 → formed p (page p w) ≡ true) → all_formed 0 (pages w) ≡ true
formed-pages w f =
    formed-all 0 (pages w)
    (λ p h. let k : p < 64 = omega (arith, length-pages w) in
    rw (zero-add, get_or-pages p w k) (f p k))

-- a page in form put in its place keeps all pages in form
pub formed-put_page : (p : ℕ) (pg w : List ℕ) → length w ≡ 16384 → p < 64 → length pg ≡ 256 → formed p pg ≡ true
    → all_formed 0 (pages w) ≡ true
    → all_formed 0 (pages (put_page p pg w)) ≡ true
formed-put_page p pg w whole small long t e =
    let other : (q : ℕ) → q < 64 → (q ≡ p → ⊥) → formed q (page q (put_page p pg w)) ≡ true =
    λ q h ne. rw (page-put_page-other p w whole small pg long q h ne) (formed-page q w e h) in
    formed-pages (put_page p pg w)
    (λ q h. split q p
    (λ a. other q h (λ z. omega arith))
    (λ a. split p q
    (λ b. other q h (λ z. omega arith))
    (λ b. let z : q ≡ p = omega arith in
    rw (z, page-put_page-same p w whole small pg long) t)))
