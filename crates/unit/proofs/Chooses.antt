-- The choice of a compact unit, base page by base page: a group stops at the last entry of its base page, since no two root entries
-- point to one page. Assumes nothing.
use Prim.Native.Nat.{ℕ, zero, suc, ◌+◌, ◌-◌, ◌≤◌, ◌<◌}
use native.Mathlib.Omega.{arith}
use mathlib.Core.Path.{◌≡◌, refl, sym, ap, ◌∙◌}
use mathlib.Core.Bool.{Bool, true, false}
use mathlib.Core.List.{List, [], ◌∷◌, ◌++◌, append-nil}
use mathlib.Core.Option.{Option, some, none}
use lib.ListN.{length, take, drop, get_or, length-take}
use lib.Seq.{length-take-le, take_at, drop_at, take_all}
use lib.Dec.{eqb, leb}
use borrow.Author.Tests.{eq-eqb, ne_eqb, le-leb, lt-leb}
use Rattle.field.specs.Test.{both, pick, given, when}
use Rattle.field.specs.Bytes.{part, zeroes, le2}
use Rattle.field.proofs.Test.{pick_true, pick-false}
use Rattle.field.proofs.Part.{split}
use Rattle.page.specs.Page.{rows_of, key_of, to_page, count, entries, records}
use Rattle.page.specs.Pages.{page, pages}
use Rattle.page.specs.Each.{Each}
use Rattle.page.proofs.Rows.{each_take, length-rows, length-rows_of, page-row}
use Rattle.page.proofs.Turns.{rows_next}
use Rattle.logs.specs.Record.{Begin}
use Rattle.tree.specs.Tree.{Leaf, under, pointers, leaf_at, leaves_under, leaves_below}
use Rattle.tree.proofs.Turn.{none_left, each-behind, under-page}
use Rattle.unit.specs.Choice.{exceeds, joining, group, lowest_empty, compact_of, larger, choose_compact}
use Rattle.unit.specs.Chosen.{page_no, chosen, Picks, leaf_of, to_pages, joins, Low, top_of}
use Rattle.unit.specs.declared.choice.Choice.{Choice}
use Rattle.unit.proofs.Groups.{length-to_pages}
use Rattle.unit.proofs.Ordered.{picks-as}

-- ---- the unit by value

pub compact-picks : (fill b k dest c : ℕ) (pgs leaves : List ℕ) → leaves ≡ pgs ++ zeroes (8 - k) → length pgs ≡ k → k ≤ 8
    → Picks (record { found = true; kind = 1; fill = fill; base_count = 1; leaf_count = k; bases = b ∷ 0 ∷ []; leaves = leaves; dest = page_no dest })
    (λ u. some (compact_of u fill (leaf_of b c) pgs dest))
unfolding chosen when compact_of zeroes
compact-picks fill b k dest c pgs leaves e l small = record {
  unit = λ u. rw (e, take_at pgs (zeroes (8 - k)) k l);
  some-bases = omega arith;
  spare-bases = refl;
  some-leaves = small;
  spare-leaves = rw (e, drop_at pgs (zeroes (8 - k)) k l);
}

-- ---- the group of a leaf: a run of its base page's entries

joins-few : (ps : List (List ℕ)) (fill sum : ℕ) (es : List (List ℕ)) → joins ps fill sum es ≤ length es
unfolding joins
joins-few ps fill sum [] = omega arith
joins-few ps fill sum (e ∷ es) = out (leb (sum + count (under ps e)) fill) (joins ps fill (sum + count (under ps e)) es) (joins-few ps fill (sum + count (under ps e)) es)
  where
    out : (t : Bool) (j : ℕ) → j ≤ length es → pick t (suc j) 0 ≤ suc (length es)
    out true j h = unfold pick in omega arith
    out false j h = unfold pick in omega arith

-- behind the last leaf nothing joins
abbrev Stops : (fill b : ℕ) → List Leaf → Type 0
Stops fill b ls = (sum n : ℕ) → joining fill b sum n ls ≡ []

stops-nil : (fill b : ℕ) → Stops fill b []
unfolding joining
stops-nil fill b sum zero = refl
stops-nil fill b sum (suc n) = refl

joined : (t : Bool) (j : ℕ) (e : List ℕ) (es : List (List ℕ)) → pick (both true t) (to_page e ∷ to_pages (take j es)) [] ≡ to_pages (take (pick t (suc j) 0) (e ∷ es))
unfolding pick both to_pages
joined true j e es = refl
joined false j e es = refl

joining-joins : (ps : List (List ℕ)) (fill b : ℕ) (ls : List Leaf) → Stops fill b ls → (sum n : ℕ) (es : List (List ℕ))
    → joining fill b sum n (leaves_under ps b es ++ ls) ≡ to_pages (take (joins ps fill sum (take n es)) es)
unfolding joining joins leaves_under leaf_at
joining-joins ps fill b ls stop sum zero es = unfold to_pages in refl
joining-joins ps fill b ls stop sum (suc n) [] = stop sum (suc n) ∙ (unfold to_pages in refl)
joining-joins ps fill b ls stop sum (suc n) (e ∷ es) =
    rw (length-rows 16 (under ps e), eq-eqb b b refl, joining-joins ps fill b ls stop (sum + count (under ps e)) n es)
    (joined (leb (sum + count (under ps e)) fill) (joins ps fill (sum + count (under ps e)) (take n es)) e es)

leb-two : (k : ℕ) → leb 2 (suc k) ≡ leb 1 k
leb-two k = split k 1 (λ h. rw (lt-leb 2 (suc k) (omega arith), lt-leb 1 k h)) (λ h. rw (le-leb 2 (suc k) (omega arith), le-leb 1 k h))

module _ (u fill : ℕ) (lk : Option ℕ) (ps : List (List ℕ)) (b : ℕ) where
  -- how many join the leaf below e, with the entries es behind it
  abbrev many : (e : List ℕ) (es : List (List ℕ)) → ℕ
  many e es = joins ps fill (count (under ps e)) (take 7 es)

  abbrev this : (low : ℕ) (e : List ℕ) (es : List (List ℕ)) → Option Begin
  this low e es = some (compact_of u fill (leaf_of b (to_page e)) (to_page e ∷ to_pages (take (many e es) es)) (lowest_empty low (to_page e) 0 ps))

  abbrev may : (e : List ℕ) (es : List (List ℕ)) → Bool
  may e es = both (exceeds (key_of (get_or (records (under ps e)) 0 [])) lk) (leb 1 (many e es))

  size : (e : List ℕ) (es : List (List ℕ)) → length (to_pages (take (many e es) es)) ≡ many e es
  size e es =
      let h : many e es ≤ length es = omega (arith, joins-few ps fill (count (under ps e)) (take 7 es), length-take 7 es) in
      length-to_pages (take (many e es) es) ∙ length-take-le (many e es) es h

  pub choose-head : (ls : List Leaf) → Stops fill b ls → (low : ℕ) (e : List ℕ) (es : List (List ℕ))
      → choose_compact u fill low lk ps (leaves_under ps b (e ∷ es) ++ ls)
      ≡ pick (may e es) (this low e es) (choose_compact u fill (larger low (to_page e)) lk ps (leaves_under ps b es ++ ls))
  unfolding choose_compact leaves_under leaf_at group compact_of
  choose-head ls stop low e es =
      rw (length-rows 16 (under ps e), joining-joins ps fill b ls stop (count (under ps e)) 7 es, size e es, leb-two (many e es))

  -- the leaves of one base page, then those behind
  given-pick : (t : Bool) (x : Begin) (o y : Option Begin) → pick t (some x) (given o y some) ≡ given (pick t (some x) o) y some
  unfolding pick given
  given-pick true x o y = refl
  given-pick false x o y = refl

  pub choose-append : (ls : List Leaf) → Stops fill b ls → (low : ℕ) (es : List (List ℕ))
      → choose_compact u fill low lk ps (leaves_under ps b es ++ ls)
      ≡ given (choose_compact u fill low lk ps (leaves_under ps b es ++ [])) (choose_compact u fill (top_of low es) lk ps ls) some
  unfolding top_of
  choose-append ls stop low [] = unfold leaves_under choose_compact given in refl
  choose-append ls stop low (e ∷ es) =
      choose-head ls stop low e es
      ∙ ap (pick (may e es) (this low e es)) (choose-append ls stop (larger low (to_page e)) es)
      ∙ given-pick (may e es) (compact_of u fill (leaf_of b (to_page e)) (to_page e ∷ to_pages (take (many e es) es)) (lowest_empty low (to_page e) 0 ps))
      (choose_compact u fill (larger low (to_page e)) lk ps (leaves_under ps b es ++ [])) (choose_compact u fill (top_of (larger low (to_page e)) es) lk ps ls)
      ∙ ap (λ (o : Option Begin). given o (choose_compact u fill (top_of (larger low (to_page e)) es) lk ps ls) some) (sym (choose-head [] (stops-nil fill b) low e es))

-- ---- another base page ends a group

stops-under : (ps : List (List ℕ)) (fill b q : ℕ) (es : List (List ℕ)) (ls : List Leaf) → (q ≡ b → ⊥) → Stops fill b ls → Stops fill b (leaves_under ps q es ++ ls)
unfolding leaves_under leaf_at
stops-under ps fill b q [] ls ne stop = stop
stops-under ps fill b q (e ∷ es) ls ne stop = out
  where
    out : Stops fill b (leaf_at ps q e ∷ (leaves_under ps q es ++ ls))
    out sum zero = unfold joining in refl
    out sum (suc n) = unfold joining in rw (ne_eqb q b ne) (unfold both pick in refl)

pub stops-below : (ps : List (List ℕ)) (fill b : ℕ) (es : List (List ℕ)) → pointers b es ≡ 0 → Stops fill b (leaves_below ps es)
unfolding leaves_below pointers
stops-below ps fill b [] e = stops-nil fill b
stops-below ps fill b (x ∷ es) e =
    let r : pointers b es ≡ 0 = omega arith in
    let ne : to_page x ≡ b → ⊥ = λ z. let k : ◌≡◌ {A = ℕ} (pick (eqb (to_page x) b) 1 0) 1 = unfold pick in rw (eq-eqb (to_page x) b z) in omega arith in
    stops-under ps fill b (to_page x) (entries (under ps x)) (leaves_below ps es) ne (stops-below ps fill b es r)

-- ---- the loop over the entries of one base page

take-rows : (k n : ℕ) (l : List ℕ) → k ≤ n → take k (rows_of 8 n l) ≡ rows_of 8 k l
unfolding rows_of
take-rows zero n l h = refl
take-rows (suc k) zero l h = absurd (let x : ⊥ = omega arith in x)
take-rows (suc k) (suc n) l h = rw (take-rows k n (drop 8 l) (omega arith))

seven-rows : (n s : ℕ) (l : List ℕ) → s ≡ pick (leb n 7) n 7 → take 7 (rows_of 8 n l) ≡ rows_of 8 s l
unfolding pick
seven-rows n s l e =
    split 7 n
    (λ h. let z : s ≡ 7 = e ∙ rw (lt-leb n 7 h) in rw z (take-rows 7 n l (omega arith)))
    (λ h. let z : s ≡ n = e ∙ rw (le-leb n 7 h) in rw z (take_all 7 (rows_of 8 n l) (rw (length-rows_of 8 n l) h)))

pub seven-small : (n s : ℕ) → s ≡ pick (leb n 7) n 7 → (s ≤ 7) × (s ≤ n)
unfolding pick
seven-small n s e =
    split 7 n
    (λ h. let z : s ≡ 7 = e ∙ rw (lt-leb n 7 h) in (omega arith, omega arith))
    (λ h. let z : s ≡ n = e ∙ rw (le-leb n 7 h) in (omega arith, omega arith))

-- at most seven entries behind the one in front
pub each-seven : (P : List ℕ → Type 0) (left at s : ℕ) (l : List ℕ) → s ≡ pick (leb (left - 1) 7) (left - 1) 7 → Each P (rows_of 8 left (drop at l)) → 0 < left
    → Each P (rows_of 8 s (drop (at + 8) l))
each-seven P left at s l e h more =
    rw (← (seven-rows (left - 1) s (drop (at + 8) l) e)) (each_take 7 (each-behind P left at l h more))

pub larger-low : (a b r : ℕ) → r ≡ larger a b → Low a → b < 64 → Low r
unfolding larger pick
larger-low a b r e h k = rw e (split b a (λ l. rw (lt-leb a b l) h) (λ l. rw (le-leb a b l) (omega arith, k)))

-- the choice among the leaves of base page b, n entries of the page l, is that among the last of these
pub record Yet (w : List ℕ) (fill : ℕ) (lk : Option ℕ) (b : ℕ) (l : List ℕ) (from n low at left : ℕ) : Type 0 where
  pub same : (u : ℕ) → choose_compact u fill from lk (pages w) (leaves_under (pages w) b (rows_of 8 n (drop 16 l)))
      ≡ choose_compact u fill low lk (pages w) (leaves_under (pages w) b (rows_of 8 left (drop at l)))

pub yet-all : (w : List ℕ) (fill : ℕ) (lk : Option ℕ) (b : ℕ) (l : List ℕ) (from n : ℕ) → Yet w fill lk b l from n from 16 n
yet-all w fill lk b l from n = record { same = λ u. refl }

module _ (w : List ℕ) (fill : ℕ) (lk : Option ℕ) (b : ℕ) (l : List ℕ) (from n low at left : ℕ) (y : Yet w fill lk b l from n low at left) where
  pub yet-end! : (r : Choice) → left ≤ 0 → Picks r (λ u. none) → Picks r (λ u. choose_compact u fill from lk (pages w) (leaves_under (pages w) b (rows_of 8 n (drop 16 l))))
  unfolding choose_compact leaves_under
  yet-end! r h p = picks-as r _ _ p (λ u. sym (y.same u ∙ rw (none_left 8 left (drop at l) h)))

  module _ (c m s k : ℕ) (z : Bool) (f : c ≡ le2 l (at + 6)) (g : m ≡ count (page c w)) (hs : s ≡ pick (leb (left - 1) 7) (left - 1) 7)
      (hk : k ≡ joins (pages w) fill m (rows_of 8 s (drop (at + 8) l))) (few : k ≤ s)
      (hz : z ≡ both (exceeds (key_of (get_or (records (page c w)) 0 [])) lk) (leb 1 k)) (small : c < 64) (more : 0 < left) where
    rest : List (List ℕ)
    rest = rows_of 8 (left - 1) (drop (at + 8) l)

    listed : to_pages (rows_of 8 (k + 1) (drop at l)) ≡ c ∷ to_pages (rows_of 8 k (drop (at + 8) l))
    listed =
        let e : k + 1 - 1 ≡ k = omega arith in
        rw (rows_next 8 (k + 1) at l (omega arith), e) (unfold to_pages in rw (page-row 8 at l (omega arith), f))

    yet-turn : (u : ℕ) → choose_compact u fill from lk (pages w) (leaves_under (pages w) b (rows_of 8 n (drop 16 l)))
        ≡ pick z (some (compact_of u fill (leaf_of b c) (to_pages (rows_of 8 (k + 1) (drop at l))) (lowest_empty low c 0 (pages w))))
        (choose_compact u fill (larger low c) lk (pages w) (leaves_under (pages w) b (rows_of 8 (left - 1) (drop (at + 8) l))))
    yet-turn u =
        let ks : k ≤ left - 1 = omega (arith, (seven-small (left - 1) s hs).1) in
        y.same u
        ∙ ap (λ (x : List (List ℕ)). choose_compact u fill low lk (pages w) (leaves_under (pages w) b x)) (rows_next 8 left at l more)
        ∙ ap (choose_compact u fill low lk (pages w)) (sym (append-nil (leaves_under (pages w) b (part at 8 l ∷ rows_of 8 (left - 1) (drop (at + 8) l)))))
        ∙ choose-head u fill lk (pages w) b [] (stops-nil fill b) low (part at 8 l) (rows_of 8 (left - 1) (drop (at + 8) l))
        ∙ rw (
          under-page w left at l c f small,
          ← g,
          page-row 8 at l (omega arith),
          ← f,
          seven-rows (left - 1) s (drop (at + 8) l) hs,
          ← hk,
          take-rows k (left - 1) (drop (at + 8) l) ks,
          append-nil (leaves_under (pages w) b (rows_of 8 (left - 1) (drop (at + 8) l))),
          ← hz,
          ← listed,
        )

    pub yet-stop! : (r : Choice) → z ≡ true
        → Picks r (λ u. some (compact_of u fill (leaf_of b c) (to_pages (rows_of 8 (k + 1) (drop at l))) (lowest_empty low c 0 (pages w))))
        → Picks r (λ u. choose_compact u fill from lk (pages w) (leaves_under (pages w) b (rows_of 8 n (drop 16 l))))
    yet-stop! r t p = picks-as r _ _ p (λ u. sym (yet-turn u ∙ pick_true z _ _ t))

    pub yet-more! : (low' : ℕ) → low' ≡ larger low c → z ≡ false → Yet w fill lk b l from n low' (at + 8) (left - 1)
    yet-more! low' e t = record { same = λ u. yet-turn u ∙ pick-false z _ _ t ∙ rw (← e) }
