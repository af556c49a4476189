-- The writes of each page change make the page that the change is defined to make, and a change whose tests pass is that page.
-- Assumes nothing.
use Prim.Native.Nat.{ℕ, suc, ◌+◌, ◌-◌, ◌*◌, ◌≤◌, ◌<◌}
use native.Mathlib.Nat.{add_assoc}
use native.Mathlib.Omega.{arith}
use mathlib.Core.Path.{◌≡◌, refl, sym, ap, ap₂, ◌∙◌}
use mathlib.Core.Logic.{inr}
use mathlib.Core.Bool.{true}
use mathlib.Core.Option.{some}
use borrow.Author.Tests.{le-leb}
use mathlib.Core.List.{List, [], ◌∷◌, ◌++◌}
use lib.ListN.{length, take, drop, get_or, set, length-append, length-drop, length-set}
use lib.Seq.{take-length, length-take-le, split_at}
use Rattle.field.specs.Test.{pick}
use Rattle.field.specs.Bytes.{part, put, zeroes, bytes2, bytes4}
use Rattle.field.proofs.Test.{both-intro, all_nil, all-intro, pick-or, when_true}
use Rattle.field.proofs.Same.{eq-same}
use Rattle.field.proofs.Part.{length_part, length-put, put_next}
use Rattle.field.proofs.Number.{length-bytes2, length-bytes4}
use Rattle.field.proofs.Zero.{length-zeroes}
use Rattle.page.specs.Page.{rows_of, joined, ascend_records, key_of, to_page, count, spare, entries, records, made, base, is_base, is_leaf, is_empty}
use Rattle.page.specs.Change.{above, emptied, appended, has, point_to, without, redirected, removed}
use Rattle.page.specs.Results.{made_empty, made_longer, made_pointing, made_shorter}
use Rattle.page.proofs.Rows.{each_take, each-drop, each_at, length-rows_of, length-rows, joined-rows_of, length-joined}
use Rattle.page.proofs.Order.{found-has, point_to-at, without_at}
use Rattle.page.proofs.Written.{topped, body, made-topped, body_of, written, read, body-empty, body-append, body-set, body-cut}
use Rattle.page.proofs.Made.{Shaped, shaped-facts, Fill, fit-base}
use Rattle.page.proofs.Region.{fill-of, base-shaped}
use Rattle.page.proofs.Kept.{Takes, takes}

-- a header with the letter c, v rows and the number n, written over a page
abbrev pub head : (c v n : ℕ) → List ℕ → List ℕ
head c v n pg = put 4 (bytes4 n) (put 2 (bytes2 v) (put 1 (c ∷ []) pg))

pub length-head : (c v n : ℕ) (pg : List ℕ) → length pg ≡ 256 → length (head c v n pg) ≡ 256
length-head c v n pg h =
    let l1 : length (put 1 (c ∷ []) pg) ≡ 256 = length-put 1 (c ∷ []) pg (omega arith) ∙ h in
    let l2 : length (put 2 (bytes2 v) (put 1 (c ∷ []) pg)) ≡ 256 =
    length-put 2 (bytes2 v) (put 1 (c ∷ []) pg) (omega (arith, length-bytes2 v)) ∙ l1 in
    length-put 4 (bytes4 n) (put 2 (bytes2 v) (put 1 (c ∷ []) pg)) (omega (arith, length-bytes4 n)) ∙ l2

pub leaf-takes : (pg : List ℕ) → is_leaf pg ≡ true → Takes pg
leaf-takes pg e = takes pg (inr e)

pub pick_takes : (pg : List ℕ) → pick (is_empty pg) true (is_leaf pg) ≡ true → Takes pg
pick_takes pg e = takes pg (pick-or (is_empty pg) (is_leaf pg) e)

pub base-room : (pg : List ℕ) → is_base pg ≡ true → count pg ≤ 30
base-room pg e = (shaped-facts base pg (base-shaped pg e)).room

-- the page whose body came to be that of the rows rs
become : (c v n : ℕ) (pg : List ℕ) (o : ℕ) (bs : List ℕ) (rs : List (List ℕ)) → length pg ≡ 256 → get_or pg 0 0 ≡ 112 → v ≡ length rs
    → put o bs (drop 16 pg) ≡ body rs → put (16 + o) bs (head c v n pg) ≡ made c n (spare pg) rs
become c v n pg o bs rs long mark e f =
    written c v n pg long mark o bs ∙ ap₂ (λ (x : ℕ) (l : List ℕ). topped c x n (spare pg ++ l)) e f ∙ made-topped c n (spare pg) rs

pub emptied-is : (n : ℕ) (pg : List ℕ) → is_leaf pg ≡ true → put 16 (zeroes 240) (head 101 0 n pg) ≡ made_empty n pg
emptied-is n pg e =
    let t : Takes pg = leaf-takes pg e in
    let room : length (joined (records pg)) ≤ 240 = omega (arith, length-joined 16 (records pg) t.long, length-rows 16 pg, t.few) in
    become 101 0 n pg 0 (zeroes 240) [] t.whole t.mark refl (ap (put 0 (zeroes 240)) t.inside ∙ body-empty (records pg) room)

pub appended-is : (n k : ℕ) (rs pg : List ℕ) → pick (is_empty pg) true (is_leaf pg) ≡ true → length rs ≡ 16 * k
    → put (16 + 16 * count pg) rs (head 108 (count pg + k) n pg) ≡ made_longer n (rows_of 16 k rs) pg
appended-is n k rs pg e long =
    let t : Takes pg = pick_takes pg e in
    let lr : length (records pg) ≡ count pg = length-rows 16 pg in
    let lj : length (joined (records pg)) ≡ 16 * count pg = rw (length-joined 16 (records pg) t.long, lr) in
    let lk : length (records pg ++ rows_of 16 k rs) ≡ count pg + k =
    rw (length-append (records pg) (rows_of 16 k rs), lr, length-rows_of 16 k rs) in
    let jk : joined (rows_of 16 k rs) ≡ rs = joined-rows_of 16 k rs ∙ ap (λ (n : ℕ). take n rs) (sym long) ∙ take-length rs in
    become 108 (count pg + k) n pg (16 * count pg) rs (records pg ++ rows_of 16 k rs) t.whole t.mark (sym lk)
    (ap₂ (put (16 * count pg)) (sym jk) t.inside ∙ body-append (records pg) (rows_of 16 k rs) (16 * count pg) lj)

-- ---- an entry at its place

module _ (n i : ℕ) (pg : List ℕ) (e : is_base pg ≡ true) (h : i < count pg) where
  abbrev es : List (List ℕ)
  es = entries pg

  abbrev it : List ℕ
  it = get_or (entries pg) i []

  facts : Shaped base pg
  facts = shaped-facts base pg (base-shaped pg e)

  fill : Fill base (entries pg)
  fill = fill-of base pg fit-base (base-shaped pg e)

  inside : drop 16 pg ≡ body (entries pg)
  inside = body_of 8 pg facts.whole facts.rest

  pub redirected-is : (new : ℕ) → put (16 + (8 * i + 6)) (bytes2 new) (head 98 (count pg) n pg)
      ≡ made_pointing n i new pg
  redirected-is new =
      let le : length es ≡ count pg = length-rows 8 pg in
      let p : point_to (key_of it) (to_page it) new es ≡ set es i (put 6 (bytes2 new) it) =
      point_to-at (key_of it) (to_page it) 101 110 new 0 i es fill.order (omega arith) refl refl in
      let s : put (8 * i + 6) (bytes2 new) (body es) ≡ body (set es i (put 6 (bytes2 new) it)) =
      body-set 8 i 6 (bytes2 new) es fill.long (omega arith) (omega (arith, length-bytes2 new)) (omega (arith, fill.room)) in
      rw p
      (become 98 (count pg) n pg (8 * i + 6) (bytes2 new) (set es i (put 6 (bytes2 new) it)) facts.whole facts.mark
      (sym (length-set es i (put 6 (bytes2 new) it) ∙ le))
      (ap (put (8 * i + 6) (bytes2 new)) inside ∙ s))

  pub removed-is : put (16 + 8 * i + 8 * (count pg - 1 - i)) (zeroes 8)
      (put (16 + 8 * i) (part (16 + 8 * i + 8) (8 * (count pg - 1 - i)) (head 98 (count pg - 1) n pg)) (head 98 (count pg - 1) n pg))
      ≡ made_shorter n i pg
  removed-is =
      let le : length es ≡ count pg = length-rows 8 pg in
      let at : i < length es = omega arith in
      let m : ℕ = 8 * (count pg - 1 - i) in
      let hd : List ℕ = head 98 (count pg - 1) n pg in
      let l : List ℕ = drop 16 pg in
      let a : List (List ℕ) = take i es in
      let b : List (List ℕ) = drop (suc i) es in
      let x : List ℕ = part (8 * i + 8) m l in
      let most : count pg ≤ 30 = facts.room in
      let lx : length x ≡ m = length_part (8 * i + 8) m l (rw (length-drop 16 pg, facts.whole) (omega arith)) in
      let lh : length hd ≡ 256 = length-head 98 (count pg - 1) n pg facts.whole in
      let la : length a ≡ i = length-take-le i es (omega arith) in
      let lb : length b ≡ count pg - 1 - i = length-drop (suc i) es ∙ rw le (omega arith) in
      let ja : length (joined a) ≡ 8 * i = length-joined 8 a (each_take i fill.long) ∙ ap (λ (y : ℕ). 8 * y) la in
      let jb : length (joined b) ≡ m = length-joined 8 b (each-drop (suc i) fill.long) ∙ ap (λ (y : ℕ). 8 * y) lb in
      let lt : length (x ++ zeroes 8) ≡ m + 8 = rw (length-append x (zeroes 8), lx, length-zeroes 8) in
      let q : without (key_of it) (to_page it) es ≡ a ++ b = without_at (key_of it) (to_page it) 101 110 0 i es fill.order at refl refl in
      let lab : count pg - 1 ≡ length (a ++ b) = rw (length-append a b, la, lb) (omega arith) in
      let w : l ≡ body (a ++ (it ∷ b)) = inside ∙ ap body (split_at es i [] at) in
      let cut : put (8 * i) (x ++ zeroes 8) l ≡ body (a ++ b) =
      ap (λ (y : List ℕ). put (8 * i) (part (8 * i + 8) m y ++ zeroes 8) y) w
      ∙ body-cut 8 (8 * i) m it a b ja (each_at i fill.long at) jb (omega arith) in
      let r : part (16 + 8 * i + 8) m hd ≡ x =
      ap (λ (y : ℕ). part y m hd) (add_assoc 16 (8 * i) 8) ∙ read 98 (count pg - 1) n pg facts.whole facts.mark (8 * i + 8) m in
      let one : put (16 + 8 * i + m) (zeroes 8) (put (16 + 8 * i) x hd) ≡ put (16 + 8 * i) (x ++ zeroes 8) hd =
      ap (λ (y : ℕ). put (16 + 8 * i + y) (zeroes 8) (put (16 + 8 * i) x hd)) (sym lx)
      ∙ put_next (16 + 8 * i) x (zeroes 8) hd (omega (arith, length-zeroes 8)) in
      rw (q, r) (one ∙ become 98 (count pg - 1) n pg (8 * i) (x ++ zeroes 8) (a ++ b) facts.whole facts.mark lab cut)

-- ---- where a change's tests pass, it is the one that the code makes

pub emptied-at : (n : ℕ) (rs : List (List ℕ)) (pg : List ℕ) → is_leaf pg ≡ true → joined (records pg) ≡ joined rs
    → emptied n rs pg ≡ some (made_empty n pg)
unfolding emptied
emptied-at n rs pg e f = when_true _ _ (both-intro _ _ e (eq-same (joined (records pg)) (joined rs) f))

pub appended-at : (n : ℕ) (rs : List (List ℕ)) (pg : List ℕ) → pick (is_empty pg) true (is_leaf pg) ≡ true
    → length (records pg) + length rs ≤ 15
    → ascend_records (above 0 (records pg)) rs ≡ true → appended n rs pg ≡ some (made_longer n rs pg)
unfolding appended
appended-at n rs pg e h t =
    when_true _ _ (all-intro _ _ e (all-intro _ _ (le-leb (length (records pg) + length rs) 15 h) (all-intro _ _ t all_nil)))

module _ (n i : ℕ) (pg : List ℕ) (e : is_base pg ≡ true) (h : i < count pg) where
  entry-there : has (key_of (get_or (entries pg) i [])) (to_page (get_or (entries pg) i [])) (entries pg) ≡ true
  entry-there = found-has _ _ i (entries pg) (omega (arith, length-rows 8 pg)) refl refl

  pub redirected-at : (new : ℕ)
      → redirected n (key_of (get_or (entries pg) i [])) (to_page (get_or (entries pg) i [])) new pg ≡ some (made_pointing n i new pg)
  unfolding redirected
  redirected-at new = when_true _ _ (both-intro _ _ e entry-there)

  pub removed-at : 2 ≤ count pg
      → removed n (key_of (get_or (entries pg) i [])) (to_page (get_or (entries pg) i [])) pg ≡ some (made_shorter n i pg)
  unfolding removed
  removed-at k =
      let two : 2 ≤ length (entries pg) = omega (arith, length-rows 8 pg) in
      when_true _ _ (all-intro _ _ e (all-intro _ _ entry-there (all-intro _ _ (le-leb 2 (length (entries pg)) two) all_nil)))
