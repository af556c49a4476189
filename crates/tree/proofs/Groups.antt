-- Build's groups by their place, the entries to them, and the pages of the layout one by one. Assumes nothing.
use Prim.Native.Nat.{ℕ, zero, suc, ◌+◌, ◌-◌, ◌*◌, ◌≤◌, ◌<◌, min}
use native.Mathlib.Nat.{add-zero, zero-add, mul-zero, mul-one, mul-suc, mul_comm, mul-le-mul_left, not-suc-le-zero, le-div_iff_mul-le}
use native.Mathlib.Numerals.{add-one}
use native.Mathlib.Omega.{arith}
use mathlib.Core.Path.{◌≡◌, refl, sym, ap, ◌∙◌}
use mathlib.Core.List.{List, [], ◌∷◌, ◌++◌, append-nil}
use lib.ListN.{length, take, drop, get_or, length-take, length-drop}
use lib.Seq.{drop-drop, ext_get_or, get_or-take, get_or-drop}
use lib.Dec.{eqb}
use borrow.Author.Tests.{eq-eqb, ne_eqb}
use Rattle.field.specs.Test.{pick}
use Rattle.field.specs.Bytes.{part, zeroes, Bytes, le4, bytes2, bytes4}
use Rattle.field.proofs.Part.{split, part-part, lent-part}
use Rattle.field.proofs.Zero.{length-zeroes}
use Rattle.field.proofs.Test.{pick-either}
use Rattle.field.proofs.Number.{le2-drop, le4-drop, le2-bytes2, le4-bytes4, le4-small}
use Rattle.page.specs.Page.{leaf, first_base, rows_of, key_of, to_page, entry, letter, count, number, spare, rows, made}
use Rattle.page.specs.Places.{place, base_place}
use Rattle.page.specs.Each.{Each, nil, cons, Long}
use Rattle.page.proofs.Rows.{get_or-rows_of, key_row, length-rows_of}
use Rattle.page.proofs.Places.{place_in, place-run}
use Rattle.page.proofs.Made.{count-made}
use Rattle.page.proofs.Images.{made_more, made_again}
use Rattle.tree.specs.Layout.{groups, entries_to, from_zero, fresh, leaf_groups, base_groups}
use Rattle.tree.specs.Pieces.{pieces, leaf_key, entry_run}

-- ---- groups by their place

module _ (k : ℕ) (some-rows : 1 ≤ k) where
  pub group-some : (fuel i : ℕ) (rs : List (List ℕ)) → length rs ≤ fuel → k * i < length rs → i < length (groups fuel k rs)
  unfolding groups
  group-some zero i rs h g = absurd (let x : ⊥ = omega arith in x)
  group-some (suc n) i [] h g = absurd (not-suc-le-zero g)
  group-some (suc n) zero (r ∷ rs) h g = omega arith
  group-some (suc n) (suc i) (r ∷ rs) h g =
      let e : k * suc i ≡ k * i + k = mul-suc k i in
      let l : length (drop k (r ∷ rs)) ≡ length (r ∷ rs) - k = length-drop k (r ∷ rs) in
      let q : i < length (groups n k (drop k (r ∷ rs))) = group-some n i (drop k (r ∷ rs)) (omega arith) (omega arith) in
      omega arith

  pub group-none : (fuel i : ℕ) (rs : List (List ℕ)) → i < length (groups fuel k rs) → k * i < length rs
  unfolding groups
  group-none zero i rs h = absurd (not-suc-le-zero h)
  group-none (suc n) i [] h = absurd (not-suc-le-zero h)
  group-none (suc n) zero (r ∷ rs) h = rw (mul-zero k) (omega arith)
  group-none (suc n) (suc i) (r ∷ rs) h =
      let e : k * suc i ≡ k * i + k = mul-suc k i in
      let l : length (drop k (r ∷ rs)) ≡ length (r ∷ rs) - k = length-drop k (r ∷ rs) in
      let q : k * i < length (drop k (r ∷ rs)) = group-none n i (drop k (r ∷ rs)) (omega arith) in
      omega arith

  pub group_at : (fuel i : ℕ) (rs : List (List ℕ)) → length rs ≤ fuel → k * i < length rs → get_or (groups fuel k rs) i [] ≡ take k (drop (k * i) rs)
  unfolding groups
  group_at zero i rs h g = absurd (let x : ⊥ = omega arith in x)
  group_at (suc n) i [] h g = absurd (not-suc-le-zero g)
  group_at (suc n) zero (r ∷ rs) h g = rw (mul-zero k)
  group_at (suc n) (suc i) (r ∷ rs) h g =
      let e : k * suc i ≡ k * i + k = mul-suc k i in
      let f : k + k * i ≡ k * suc i = omega arith in
      let l : length (drop k (r ∷ rs)) ≡ length (r ∷ rs) - k = length-drop k (r ∷ rs) in
      group_at n i (drop k (r ∷ rs)) (omega arith) (omega arith) ∙ rw (drop-drop (k * i) k (r ∷ rs), f)

  -- how many
  pub pieces-some : (n i : ℕ) → k * i < n → i < pieces n k
  unfolding pieces
  pieces-some n i h =
      let e : suc i * k ≡ k * i + k = mul_comm (suc i) k ∙ mul-suc k i in
      let g : suc i * k ≤ n + k - 1 = omega arith in
      (le-div_iff_mul-le {k = k} {x = suc i} {y = n + k - 1} some-rows).1 g

  pieces_none : (n i : ℕ) → i < pieces n k → k * i < n
  unfolding pieces
  pieces_none n i h =
      let e : suc i * k ≡ k * i + k = mul_comm (suc i) k ∙ mul-suc k i in
      let g : suc i * k ≤ n + k - 1 = (le-div_iff_mul-le {k = k} {x = suc i} {y = n + k - 1} some-rows).0 h in
      omega arith

  pub length-groups : (fuel : ℕ) (rs : List (List ℕ)) → length rs ≤ fuel → length (groups fuel k rs) ≡ pieces (length rs) k
  length-groups fuel rs h =
      let l : ℕ = length (groups fuel k rs) in
      let p : ℕ = pieces (length rs) k in
      split l p
      (λ a. absurd (let x : l < l = group-some fuel l rs h (pieces_none (length rs) l a) in let y : ⊥ = omega arith in y))
      (λ a. split p l
      (λ b. absurd (let x : p < p = pieces-some (length rs) p (group-none fuel p rs b) in let y : ⊥ = omega arith in y))
      (λ b. omega arith))

-- ---- entries

pub to-entry : (k p : ℕ) → p < 65536 → to_page (entry k p) ≡ p
unfolding to_page entry bytes4
to-entry k p h = sym (le2-drop 6 0 (entry k p)) ∙ rw (← append-nil (bytes2 p)) (le2-bytes2 p [] h)

pub key-entry : (k p : ℕ) → k < 4294967296 → key_of (entry k p) ≡ k
unfolding key_of entry
key-entry k p h = sym (le4-drop 2 0 (entry k p)) ∙ le4-bytes4 k (bytes2 p) h

module _ (to : ℕ → ℕ) where
  pub length-entries : (j : ℕ) (gs : List (List (List ℕ))) → length (entries_to to j gs) ≡ length gs
  unfolding entries_to
  length-entries j [] = refl
  length-entries j (g ∷ gs) = ap suc (length-entries (j + 1) gs)

  entries_from : (j i : ℕ) (gs : List (List (List ℕ))) → i < length gs → get_or (entries_to to j gs) i [] ≡ entry (key_of (get_or (get_or gs i []) 0 [])) (to (j + i))
  unfolding entries_to
  entries_from j i [] h = absurd (not-suc-le-zero h)
  entries_from j zero (g ∷ gs) h = rw (add-zero j)
  entries_from j (suc i) (g ∷ gs) h = let e : j + 1 + i ≡ j + suc i = omega arith in rw (← e) (entries_from (j + 1) i gs (omega arith))

  pub entries_at : (i : ℕ) (gs : List (List (List ℕ))) → i < length gs → get_or (entries_to to 0 gs) i [] ≡ entry (key_of (get_or (get_or gs i []) 0 [])) (to i)
  entries_at i gs h = entries_from 0 i gs h ∙ rw (zero-add i)

pub length-from_zero : (es : List (List ℕ)) → length (from_zero es) ≡ length es
unfolding from_zero
length-from_zero [] = refl
length-from_zero (e ∷ es) = refl

pub from_zero-first : (es : List (List ℕ)) → 0 < length es → get_or (from_zero es) 0 [] ≡ entry 0 (to_page (get_or es 0 []))
unfolding from_zero
from_zero-first [] h = absurd (not-suc-le-zero h)
from_zero-first (e ∷ es) h = refl

pub from_zero-later : (es : List (List ℕ)) (i : ℕ) → 0 < i → get_or (from_zero es) i [] ≡ get_or es i []
unfolding from_zero
from_zero-later [] i h = refl
from_zero-later (e ∷ es) zero h = absurd (not-suc-le-zero h)
from_zero-later (e ∷ es) (suc i) h = refl

-- ---- a run of entries

module _ (f : ℕ) (records : List ℕ) (step : ℕ) where
  pub length_run : (i p n : ℕ) → length (entry_run f records step i p n) ≡ n
  unfolding entry_run
  length_run i p zero = refl
  length_run i p (suc n) = ap suc (length_run (i + step) (p + 1) n)

  pub run_at : (i p n j : ℕ) → j < n → get_or (entry_run f records step i p n) j [] ≡ entry (leaf_key f records (i + step * j)) (p + j)
  unfolding entry_run
  run_at i p zero j h = absurd (not-suc-le-zero h)
  run_at i p (suc n) zero h = rw (mul-zero step, add-zero i, add-zero p)
  run_at i p (suc n) (suc j) h =
      let e : i + step + step * j ≡ i + step * suc j = omega (arith, mul-suc step j) in
      let g : p + 1 + j ≡ p + suc j = omega arith in
      rw (← e, ← g) (run_at (i + step) (p + 1) n j (omega arith))

  pub run_more : (i p n : ℕ) → entry_run f records step i p (n + 1) ≡ entry_run f records step i p n ++ (entry (leaf_key f records (i + step * n)) (p + n) ∷ [])
  unfolding entry_run
  run_more i p zero = rw (mul-zero step, add-zero i, add-zero p)
  run_more i p (suc n) =
      let e : i + step + step * n ≡ i + step * suc n = omega (arith, mul-suc step n) in
      let g : p + 1 + n ≡ p + suc n = omega arith in
      rw (← e, ← g, ← run_more (i + step) (p + 1) n, add-one (suc n), add-one n)

pub leaf-key-small : (f : ℕ) (records : List ℕ) (i : ℕ) → Bytes records → leaf_key f records i < 4294967296
unfolding leaf_key
leaf-key-small f records i b = pick-either (λ (x : ℕ). x < 4294967296) (eqb i 0) 0 (le4 records (16 * (f * i) + 2)) (omega arith) (le4-small records (16 * (f * i) + 2) b)

-- ---- the layout's entries are such runs

module _ (f g n : ℕ) (records : List ℕ) (fp : 1 ≤ f) (gp : 1 ≤ g) where
  abbrev rs : List (List ℕ)
  rs = rows_of 16 n records

  abbrev level : List (List ℕ)
  level = from_zero (entries_to place 0 (leaf_groups f (rows_of 16 n records)))

  rows-n : length (rows_of 16 n records) ≡ n
  rows-n = length-rows_of 16 n records

  pub leaf-count : length (leaf_groups f (rows_of 16 n records)) ≡ pieces n f
  unfolding leaf_groups
  leaf-count = length-groups f fp (length rs) rs (omega arith) ∙ rw rows-n

  pub leaf-group : (i : ℕ) → i < pieces n f → get_or (leaf_groups f (rows_of 16 n records)) i [] ≡ take f (drop (f * i) (rows_of 16 n records))
  unfolding leaf_groups
  leaf-group i h = group_at f fp (length rs) i rs (omega arith) (rw rows-n (pieces_none f fp n i h))

  pub leaf-inside : (i : ℕ) → i < pieces n f → f * i < n
  leaf-inside i h = pieces_none f fp n i h

  length-level : length level ≡ pieces n f
  length-level = length-from_zero (entries_to place 0 (leaf_groups f rs)) ∙ length-entries place 0 (leaf_groups f rs) ∙ leaf-count

  level-at : (i : ℕ) → i < pieces n f → get_or level i [] ≡ entry (leaf_key f records i) (place i)
  unfolding leaf_key pick
  level-at i h =
      let ls : List (List (List ℕ)) = leaf_groups f rs in
      let hl : i < length ls = rw leaf-count h in
      let at : get_or (entries_to place 0 ls) i [] ≡ entry (key_of (get_or (get_or ls i []) 0 [])) (place i) = entries_at place i ls hl in
      split i 1
      (λ a. let z : i ≡ 0 = omega arith in
      let le : 0 < length (entries_to place 0 ls) = rw (length-entries place 0 ls) (omega arith) in
      let zl : 0 < length ls = omega arith in
      let small : place 0 < 65536 = omega (arith, place_in 0 (omega arith)) in
      rw (eq-eqb i 0 z, z) (from_zero-first (entries_to place 0 ls) le ∙ rw (entries_at place 0 ls zl, to-entry (key_of (get_or (get_or ls 0 []) 0 [])) (place 0) small)))
      (λ a. let fi : f * i < n = leaf-inside i h in
      let first : get_or (take f (drop (f * i) rs)) 0 [] ≡ part (16 * (f * i)) 16 records =
      get_or-take f (drop (f * i) rs) 0 [] fp ∙ get_or-drop (f * i) rs 0 [] ∙ rw (add-zero (f * i)) (get_or-rows_of 16 n (f * i) records fi) in
      rw (ne_eqb i 0 (λ z. omega arith))
      (from_zero-later (entries_to place 0 ls) i a ∙ at ∙ rw (leaf-group i h, first, key_row 16 (16 * (f * i)) records (omega arith))))

  pub base-count : length (base_groups f g (rows_of 16 n records)) ≡ pieces (pieces n f) g
  unfolding base_groups
  base-count = length-groups g gp (length (leaf_groups f rs)) level (omega (arith, length-level, leaf-count)) ∙ rw length-level

  base-take : (j : ℕ) → g * j < pieces n f → get_or (base_groups f g (rows_of 16 n records)) j [] ≡ take g (drop (g * j) level)
  unfolding base_groups
  base-take j h = group_at g gp (length (leaf_groups f rs)) j level (omega (arith, length-level, leaf-count)) (rw length-level h)

  pub base-inside : (j : ℕ) → j < pieces (pieces n f) g → g * j < pieces n f
  base-inside j h = pieces_none g gp (pieces n f) j h

  -- a base page's entries
  pub base-group : (j m : ℕ) → j < pieces (pieces n f) g → m ≡ min g (pieces n f - g * j)
      → get_or (base_groups f g (rows_of 16 n records)) j [] ≡ entry_run f records 1 (g * j) (place (g * j)) m
  base-group j m h e =
      let b : g * j < pieces n f = base-inside j h in
      let ld : length (drop (g * j) level) ≡ pieces n f - g * j = length-drop (g * j) level ∙ rw length-level in
      let lt : length (take g (drop (g * j) level)) ≡ m = length-take g (drop (g * j) level) ∙ rw ld (sym e) in
      base-take j b
      ∙ ext_get_or [] (take g (drop (g * j) level)) (entry_run f records 1 (g * j) (place (g * j)) m) (lt ∙ sym (length_run f records 1 (g * j) (place (g * j)) m))
      (λ i k. let im : i < m = omega arith in
      let one : g * j + 1 * i ≡ g * j + i = omega arith in
      get_or-take g (drop (g * j) level) i [] (omega arith)
      ∙ get_or-drop (g * j) level i []
      ∙ level-at (g * j + i) (omega arith)
      ∙ sym (run_at f records 1 (g * j) (place (g * j)) m i im ∙ rw (one, place-run (g * j) i)))

  -- the root's entries
  pub root-group : Bytes records → entries_to base_place 0 (base_groups f g (rows_of 16 n records)) ≡ entry_run f records g 0 first_base (pieces (pieces n f) g)
  unfolding base_place
  root-group bytes =
      let bs : List (List (List ℕ)) = base_groups f g rs in
      let nb : ℕ = pieces (pieces n f) g in
      ext_get_or [] (entries_to base_place 0 bs) (entry_run f records g 0 first_base nb) (length-entries base_place 0 bs ∙ base-count ∙ sym (length_run f records g 0 first_base nb))
      (λ j k. let h : j < nb = omega (arith, length-entries base_place 0 bs, base-count) in
      let hb : j < length bs = omega (arith, length-entries base_place 0 bs) in
      let b : g * j < pieces n f = base-inside j h in
      let first : get_or (take g (drop (g * j) level)) 0 [] ≡ entry (leaf_key f records (g * j)) (place (g * j)) =
      get_or-take g (drop (g * j) level) 0 [] gp ∙ get_or-drop (g * j) level 0 [] ∙ rw (add-zero (g * j)) (level-at (g * j) b) in
      entries_at base_place j bs hb
      ∙ rw (base-take j b, first, key-entry (leaf_key f records (g * j)) (place (g * j)) (leaf-key-small f records (g * j) bytes))
      (sym (run_at f records g 0 first_base nb j h ∙ rw (zero-add (g * j)))))

-- ---- images that are filled

length-entry : (k p : ℕ) → length (entry k p) ≡ 8
unfolding entry bytes4 bytes2
length-entry k p = refl

pub long-run : (f : ℕ) (records : List ℕ) (step i p n : ℕ) → Each (Long 8) (entry_run f records step i p n)
unfolding entry_run
long-run f records step i p zero = nil
long-run f records step i p (suc n) = cons (length-entry (leaf_key f records i) p) (long-run f records step (i + step) (p + 1) n)

module _ (c f : ℕ) (records : List ℕ) (step i p k : ℕ) (small : k < 30) (image : List ℕ) (e : image ≡ made c 0 (zeroes 8) (entry_run f records step i p k)) where
  few : length (entry_run f records step i p k) < 65536
  few = omega (arith, length_run f records step i p k)

  pub image-again : image ≡ made (letter image) (number image) (spare image) (rows 8 image)
  image-again = made_again 8 c 0 (zeroes 8) (entry_run f records step i p k) (length-zeroes 8) (omega arith) few (long-run f records step i p k) image e

  pub image-count : count image ≡ k
  image-count = ap count e ∙ count-made c 0 (zeroes 8) (entry_run f records step i p k) few ∙ length_run f records step i p k

  pub image-more : (at key : ℕ) (more : List ℕ) → at ≡ i + step * k → key ≡ leaf_key f records at
      → more ≡ made (letter image) (number image) (spare image) (rows 8 image ++ (entry key (p + k) ∷ []))
      → more ≡ made c 0 (zeroes 8) (entry_run f records step i p (k + 1))
  image-more at key more ea ek em =
      em
      ∙ made_more 8 c 0 (zeroes 8) (entry_run f records step i p k) (length-zeroes 8) (omega arith) few (long-run f records step i p k) image (entry key (p + k) ∷ []) e
      ∙ rw (run_more f records step i p k, ek, ea)

-- a leaf's records are those that stand behind f * i others
pub leaf-rows : (n f i k at : ℕ) (records : List ℕ) → 16 * n ≤ length records → f * i < n → at ≡ 16 * (f * i) → k ≡ min f (n - f * i)
    → rows_of 16 k (take (at + 16 * k - at) (drop at records)) ≡ take f (drop (f * i) (rows_of 16 n records))
leaf-rows n f i k at records h g ea ek =
    let rs : List (List ℕ) = rows_of 16 n records in
    let ld : length (drop (f * i) rs) ≡ n - f * i = length-drop (f * i) rs ∙ rw (length-rows_of 16 n records) in
    let lt : length (take f (drop (f * i) rs)) ≡ k = length-take f (drop (f * i) rs) ∙ rw ld (sym ek) in
    rw (lent-part at (16 * k) records)
    (ext_get_or [] (rows_of 16 k (part at (16 * k) records)) (take f (drop (f * i) rs)) (length-rows_of 16 k (part at (16 * k) records) ∙ sym lt)
    (λ j p. let jk : j < k = omega (arith, length-rows_of 16 k (part at (16 * k) records)) in
    let z : at + 16 * j ≡ 16 * (f * i + j) = omega arith in
    get_or-rows_of 16 k j (part at (16 * k) records) jk
    ∙ part-part (16 * j) 16 at (16 * k) records (omega arith) (omega arith)
    ∙ ap (λ (x : ℕ). part x 16 records) z
    ∙ sym (get_or-take f (drop (f * i) rs) j [] (omega arith) ∙ get_or-drop (f * i) rs j [] ∙ get_or-rows_of 16 n (f * i + j) records (omega arith))))

pub leaf-image : (image more : List ℕ) (xs : List (List ℕ)) → image ≡ made 108 0 (zeroes 8) [] → more ≡ made (letter image) (number image) (spare image) (rows 16 image ++ xs)
    → more ≡ fresh leaf xs
unfolding fresh
leaf-image image more xs e g = g ∙ made_more 16 108 0 (zeroes 8) [] (length-zeroes 8) (omega arith) (omega arith) nil image xs e

pub blank-again : (image : List ℕ) → image ≡ made 108 0 (zeroes 8) [] → image ≡ made (letter image) (number image) (spare image) (rows 16 image)
blank-again image e = made_again 16 108 0 (zeroes 8) [] (length-zeroes 8) (omega arith) (omega arith) nil image e

pub blank-count : (image : List ℕ) → image ≡ made 108 0 (zeroes 8) [] → count image ≡ 0
blank-count image e = ap count e ∙ count-made 108 0 (zeroes 8) [] (omega arith)

-- ---- products of two numbers

pub step-more : (step k : ℕ) → step * (k + 1) ≡ step * k + step
step-more step k = rw (add-one k) (mul-suc step k)

pub at_most : (f i : ℕ) → 1 ≤ f → i ≤ f * i
at_most f i h = omega (arith, mul-le-mul_left i h, mul_comm i f, mul-one i)
