-- Rows that a page of a kind can hold: what each row is by itself, which no rearranging changes; where its entries point; and that the keys
-- ascend, which a well-formed tree says of every page. Assumes nothing.
use Prim.Native.Nat.{ℕ, suc, ◌+◌, ◌*◌, ◌≤◌, ◌<◌}
use native.Mathlib.Omega.{arith}
use mathlib.Core.Path.{◌≡◌, refl, ap}
use mathlib.Core.Logic.{◌≢◌, ⊎_elim}
use mathlib.Core.Bool.{true}
use mathlib.Core.List.{List, [], ◌∷◌, ◌++◌, map}
use borrow.Author.Tests.{le-leb, ne_eqb}
use lib.Dec.{ltb}
use lib.ListN.{length, length-append}
use Rattle.field.specs.Bytes.{Bytes, bytes2, bytes4}
use Rattle.field.proofs.Test.{both-intro, pick-either}
use Rattle.field.proofs.Part.{split}
use Rattle.field.proofs.Byte.{bytes-cons, bytes-append, bytes-bytes2, bytes-bytes4}
use Rattle.page.specs.Page.{Kind, base, key_of, to_page, entry, ascend, pointing, rows}
use Rattle.page.specs.Each.{Each, Long}
use Rattle.page.proofs.Rows.{each_append}
use Rattle.page.proofs.Order.{First, ascend-facts, ascend-of}
use Rattle.page.proofs.Made.{Fill}
use Rattle.page.proofs.Kept.{bytes-rows}
use Rattle.tree.proofs.Sound.{each_map}
use Rattle.tree.proofs.Groups.{key-entry, to-entry}
use Rattle.saving.specs.Save.{lesser, greater, with_record, without_key}
use Rattle.tidy.proofs.Model.{Entry, Ascends, pointers, full, marks, trail, Well, entry_key}
use Rattle.tidy.proofs.Trail.{eq?, back, front, halve}
use Rattle.tidy.proofs.Trail as Trail
use Rattle.tidy.proofs.Entries.{ent, ents}
use Rattle.tidy.proofs.Tests.{Into, into}
use Rattle.saved.specs.Saved.{Row, RowOf}
use Rattle.saved.proofs.Sorted.{lesser-in, lesser-out, greater-in, greater-out}

-- ---- rows by themselves, and on a page

-- rows of pages of this kind
abbrev pub Rows : Kind → List (List ℕ) → Type 0
Rows k rs = Each (Row k.size k.first k.second) rs

-- a page of this kind can hold them
pub record Holds (k : Kind) (rs : List (List ℕ)) : Type 0 where
  pub each : Rows k rs
  pub order : Ascends 0 (map key_of rs)
  pub enough : k.least ≤ length rs
  pub room : length rs ≤ k.most

-- rows of a page in form
rows-each : (sz a b lo : ℕ) (rs : List (List ℕ)) → Each (Long sz) rs → ascend a b lo rs ≡ true → Each Bytes rs → Each (Row sz a b) rs
rows-each sz a b lo [] Each.nil e Each.nil = Each.nil
rows-each sz a b lo (r ∷ rs) (Each.cons l ls) e (Each.cons c cs) =
    let f : First a b lo r rs = ascend-facts a b lo r rs e in
    Each.cons (record { long = l; one = f.one; two = f.two; bytes = c }) (rows-each sz a b (key_of r + 1) rs ls f.after cs)

pub page-rows : (k : Kind) (pg : List ℕ) → Fill k (rows k.size pg) → Bytes pg → Rows k (rows k.size pg)
page-rows k pg f b = rows-each k.size k.first k.second 0 (rows k.size pg) f.long f.order (bytes-rows k.size pg b)

-- rows that each bear the mark, their keys ascending
ascend-each : (sz a b lo : ℕ) (rs : List (List ℕ)) → Each (Row sz a b) rs → Ascends lo (map key_of rs) → ascend a b lo rs ≡ true
ascend-each sz a b lo [] Each.nil k = unfold ascend in refl
ascend-each sz a b lo (r ∷ rs) (Each.cons h p) k =
    let n : suc (key_of r) ≡ key_of r + 1 = omega arith in
    ascend-of a b lo r rs (record { one = h.one; two = h.two; low = k.0; after = ascend-each sz a b (key_of r + 1) rs p (rw n at k.1) })

module _ (k : Kind) (rs : List (List ℕ)) (h : Holds k rs) where
  pub holds-fill : Fill k rs
  holds-fill =
      record {
        long = each_map (λ (r : List ℕ) (q : Row k.size k.first k.second r). q.long) h.each;
        order = ascend-each k.size k.first k.second 0 rs h.each h.order;
        enough = h.enough;
        room = h.room;
      }

  pub holds-bytes : Each Bytes rs
  holds-bytes = each_map (λ (r : List ℕ) (q : Row k.size k.first k.second r). q.bytes) h.each

-- what is full has something
pub length-full : {A : Type 0} (xs : List A) → full xs ≡ 1 → 1 ≤ length xs
length-full [] h = absurd (omega arith)
length-full (x ∷ xs) h = omega arith

-- ---- a property of each row, of rows taken apart and of rows chosen by key

module _ {P : List ℕ → Type 0} where
  pub each-parts : (a : List (List ℕ)) (r : List ℕ) (b : List (List ℕ)) → Each P (a ++ r ∷ b) → Each P a × P r × Each P b
  each-parts [] r b (Each.cons h p) = (Each.nil, h, p)
  each-parts (x ∷ a) r b (Each.cons h p) = let q = each-parts a r b p in (Each.cons h q.0, q.1, q.2)

  each-lesser : (k : ℕ) (rs : List (List ℕ)) → Each P rs → Each P (lesser k rs)
  unfolding lesser
  each-lesser k [] Each.nil = Each.nil
  each-lesser k (r ∷ rs) (Each.cons h p) =
      pick-either (Each P) (ltb (key_of r) k) (r ∷ lesser k rs) (lesser k rs) (Each.cons h (each-lesser k rs p)) (each-lesser k rs p)

  each-greater : (k : ℕ) (rs : List (List ℕ)) → Each P rs → Each P (greater k rs)
  unfolding greater
  each-greater k [] Each.nil = Each.nil
  each-greater k (r ∷ rs) (Each.cons h p) =
      pick-either (Each P) (ltb k (key_of r)) (r ∷ greater k rs) (greater k rs) (Each.cons h (each-greater k rs p)) (each-greater k rs p)

  pub each-with : (r : List ℕ) (rs : List (List ℕ)) → P r → Each P rs → Each P (with_record r rs)
  unfolding with_record
  each-with r rs h p = each_append (each-lesser (key_of r) rs p) (Each.cons h (each-greater (key_of r) rs p))

  pub each-without : (k : ℕ) (rs : List (List ℕ)) → Each P rs → Each P (without_key k rs)
  unfolding without_key
  each-without k rs p = each_append (each-lesser k rs p) (each-greater k rs p)

-- no more rows than before
shorter : (k : ℕ) (rs : List (List ℕ)) → length (lesser k rs) + length (greater k rs) ≤ length rs
unfolding lesser greater
shorter k [] = omega arith
shorter k (r ∷ rs) =
    split (key_of r) k
    (λ h. rw (lesser-in k r rs h, greater-out k r rs (omega arith)) (omega (arith, shorter k rs)))
    (λ h. split k (key_of r)
    (λ d. rw (lesser-out k r rs h, greater-in k r rs d) (omega (arith, shorter k rs)))
    (λ d. rw (lesser-out k r rs h, greater-out k r rs d) (omega (arith, shorter k rs))))

pub length_without : (k : ℕ) (rs : List (List ℕ)) → length (without_key k rs) ≤ length rs
unfolding without_key
length_without k rs = omega (arith, length-append (lesser k rs) (greater k rs), shorter k rs)

pub length-with : (r : List ℕ) (rs : List (List ℕ)) → length (with_record r rs) ≤ length rs + 1
unfolding with_record
length-with r rs = omega (arith, length-append (lesser (key_of r) rs) (r ∷ greater (key_of r) rs), shorter (key_of r) rs)

-- ---- entries

-- one that is made
module _ (key p : ℕ) (h : key < 4294967296) (k : p < 65536) where
  pub ent-entry : ent (entry key p) ≡ record { key = key; page = p }
  ent-entry = λ i. record { key = key-entry key p h i; page = to-entry key p k i }

  pub row-entry : RowOf base (entry key p)
  row-entry =
      record {
        long = unfold entry bytes4 bytes2 in refl;
        one = unfold entry in refl;
        two = unfold entry in refl;
        bytes = unfold entry in bytes-cons 101 (110 ∷ (bytes4 key ++ bytes2 p)) (omega arith)
            (bytes-cons 110 (bytes4 key ++ bytes2 p) (omega arith) (bytes-append (bytes4 key) (bytes2 p) (bytes-bytes4 key) (bytes-bytes2 p)));
      }

-- entries that point into a region, each by itself
abbrev pub To : (from to : ℕ) → List (List ℕ) → Type 0
To from to es = Each (λ e. (from ≤ to_page e) × (to_page e ≤ to)) es

pub pointing-each : (from to : ℕ) (es : List (List ℕ)) → pointing from to es ≡ true → To from to es
pointing-each from to [] h = Each.nil
pointing-each from to (e ∷ es) h =
    let i : Into from to e es = into from to e es h in Each.cons {r = e} (i.low, i.high) (pointing-each from to es i.rest)

pub each-pointing : (from to : ℕ) (es : List (List ℕ)) → To from to es → pointing from to es ≡ true
unfolding pointing
each-pointing from to [] Each.nil = refl
each-pointing from to (e ∷ es) (Each.cons h p) =
    both-intro _ _ (le-leb from (to_page e) h.0) (both-intro _ _ (le-leb (to_page e) to h.1) (each-pointing from to es p))

-- their keys, as rows and as pairs
keys-ents : (es : List (List ℕ)) → map entry_key (ents es) ≡ map key_of es
keys-ents [] = refl
keys-ents (e ∷ es) = ap (λ (l : List ℕ). key_of e ∷ l) (keys-ents es)

pub keys-order : (es : List (List ℕ)) → Ascends 0 (map entry_key (ents es)) → Ascends 0 (map key_of es)
keys-order es a = rw (keys-ents es) at a

-- ---- the keys on any page of a level ascend

module _ {Item : Type 0} (key : Item → ℕ) (f : ℕ → List Item) where
  -- on a page that is pointed to
  pointed-order : (lo : ℕ) (es : List Entry) → Ascends lo (trail key f es) → (p : ℕ) → 1 ≤ pointers p es → Ascends 0 (map key (f p))
  pointed-order lo [] a p h = absurd (omega arith)
  pointed-order lo (e ∷ es) a p h =
      ⊎_elim
      (λ (c : e.page ≡ p). rw c at
      (halve key 0 (f e.page)
      (Trail.lower {lo = suc (2 * e.key)} {lo' = 2 * 0} (marks key (f e.page)) (omega arith)
      (front (suc (2 * e.key)) (marks key (f e.page)) (trail key f es) a.1))))
      (λ (d : e.page ≢ p). pointed-order (suc (2 * e.key)) es (back (suc (2 * e.key)) (marks key (f e.page)) (trail key f es) a.1) p
      (omega (arith, rw (ne_eqb e.page p d) at h)))
      (eq? e.page p)

  pub page-order : (es : List Entry) → Well key f es → (p : ℕ) (is : List Item) → f p ≡ is → Ascends 0 (map key is)
  page-order es w p [] e = tt
  page-order es w p (i ∷ is) e = rw e at (pointed-order 0 es w.ascends p (omega (arith, w.pointed p, ap full e)))
