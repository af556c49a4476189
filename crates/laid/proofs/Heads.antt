-- Entries that lead to groups of rows, group i's to page `to i`: that `entries_to` makes such entries, from the leftmost key or from 0, and
-- what they are like, whatever the rows and the pages. Once for entries over records and over entries. Assumes nothing.
use Prim.Native.Nat.{ℕ, suc, ◌+◌, ◌≤◌, ◌<◌}
use native.Mathlib.Nat.{not-suc-le-zero}
use native.Mathlib.Omega.{arith}
use mathlib.Core.Path.{◌≡◌, refl, sym, ap, ◌∙◌}
use mathlib.Core.Bool.{true}
use mathlib.Core.List.{List, [], ◌∷◌, ◌++◌}
use lib.ListN.{length, get_or}
use borrow.Author.Tests.{eq-eqb, ne_eqb, le-leb}
use Rattle.field.specs.Test.{pick}
use Rattle.field.specs.Bytes.{Bytes, bytes2, bytes4, le2}
use Rattle.field.proofs.Test.{both-1, both-2, both-intro}
use Rattle.field.proofs.Part.{split}
use Rattle.field.proofs.Number.{le4-small, le4-drop, le4-bytes4}
use Rattle.field.proofs.Byte.{bytes-cons, bytes-append, bytes-bytes2, bytes-bytes4}
use Rattle.page.specs.Page.{key_of, to_page, entry, ascend, pointing}
use Rattle.page.specs.Change.{above}
use Rattle.page.specs.Each.{Each, nil, cons, Long}
use Rattle.page.proofs.Order.{First, ascend-facts, ascend-of, ascend-lower, ascend-append}
use Rattle.tree.specs.Tree.{pointers}
use Rattle.tree.specs.Layout.{entries_to, from_zero}
use Rattle.laid.proofs.Groups.{flat, Sized, done, more, each_back}

-- ---- an entry

-- eight bytes with the mark, to page p, with the key
pub record Entry (key p : ℕ) (e : List ℕ) : Type 0 where
  pub long : length e ≡ 8
  pub bytes : Bytes e
  pub one : get_or e 0 0 ≡ 101
  pub two : get_or e 1 0 ≡ 110
  pub keyed : key_of e ≡ key
  pub to : to_page e ≡ p

-- its key is read again
pub key-entry : (key p : ℕ) → key < 4294967296 → key_of (entry key p) ≡ key
unfolding key_of entry
key-entry key p h = sym (le4-drop 2 0 (entry key p)) ∙ le4-bytes4 key (bytes2 p) h

-- and its page
page-entry : (key p : ℕ) → p < 65536 → to_page (entry key p) ≡ p
unfolding to_page entry bytes4 bytes2 le2
page-entry key p h = omega arith

-- `entry` makes one
pub entry_of : (key p : ℕ) → key < 4294967296 → p < 65536 → Entry key p (entry key p)
entry_of key p h k =
    record {
      long = unfold entry bytes4 bytes2 in refl;
      bytes = unfold entry in bytes-cons 101 (110 ∷ (bytes4 key ++ bytes2 p)) (omega arith)
          (bytes-cons 110 (bytes4 key ++ bytes2 p) (omega arith) (bytes-append (bytes4 key) (bytes2 p) (bytes-bytes4 key) (bytes-bytes2 p)));
      one = unfold entry in refl;
      two = unfold entry in refl;
      keyed = key-entry key p h;
      to = page-entry key p k;
    }

-- ---- entries over groups

-- the keys in g are key or more, and below hi
pub record Held (a b key hi : ℕ) (g : List (List ℕ)) : Type 0 where
  pub order : ascend a b key g ≡ true
  pub inside : above key g ≤ hi
  pub over : key < hi

-- an entry for each group, the first being group i, with a key of lo or more; a b is the mark of the rows
pub data Heads (a b : ℕ) (to : ℕ → ℕ) : (lo i : ℕ) → List (List ℕ) → List (List (List ℕ)) → Type 0 where
  none : {lo i : ℕ} → Heads a b to lo i [] []
  head : {lo i key hi : ℕ} {e : List ℕ} {es : List (List ℕ)} {g : List (List ℕ)} {gs : List (List (List ℕ))} → Entry key (to i) e → lo ≤ key
      → Held a b key hi g → Heads a b to hi (i + 1) es gs → Heads a b to lo i (e ∷ es) (g ∷ gs)

-- what holds of the page of each of n groups, the first being group i
abbrev pub Paged : (to : ℕ → ℕ) (i n : ℕ) (P : ℕ → Type 0) → Type 0
Paged to i n P = (k : ℕ) → i ≤ k → k < i + n → P (to k)

-- the least key that may follow rows is no lower than the least that is allowed in them
pub above-least : (a b lo : ℕ) (g : List (List ℕ)) → ascend a b lo g ≡ true → lo ≤ above lo g
unfolding above
above-least a b lo [] e = omega arith
above-least a b lo (r ∷ g) e =
    let f : First a b lo r g = ascend-facts a b lo r g e in
    omega (arith, f.low, above-least a b (key_of r + 1) g f.after)

-- and is no lower for a higher one
above_lower : (lo hi : ℕ) (g : List (List ℕ)) → lo ≤ hi → above lo g ≤ above hi g
unfolding above
above_lower lo hi [] h = h
above_lower lo hi (r ∷ g) h = omega arith

-- `entries_to` makes such entries
pub heads-from : (a b k lo : ℕ) (to : ℕ → ℕ) (i : ℕ) (gs : List (List (List ℕ))) → Sized k gs → Each Bytes (flat gs) → ascend a b lo (flat gs) ≡ true
    → Paged to i (length gs) (λ p. p < 65536)
    → Heads a b to lo i (entries_to to i gs) gs
unfolding entries_to
heads-from a b k lo to i [] done q e h = none
heads-from a b k lo to i ([] ∷ gs) (more s t u) q e h = absurd (not-suc-le-zero s)
heads-from a b k lo to i ((r ∷ g) ∷ gs) (more s t u) (cons c q) e h =
    let f : First a b lo r (g ++ flat gs) = ascend-facts a b lo r (g ++ flat gs) e in
    let hi : ℕ = above (key_of r + 1) g in
    let both-parts = rw (ascend-append a b (key_of r + 1) g (flat gs)) at f.after in
    let order : ascend a b (key_of r + 1) g ≡ true = both-1 _ _ both-parts in
    let least : key_of r + 1 ≤ hi = above-least a b (key_of r + 1) g order in
    let small : key_of r < 4294967296 = unfold key_of in le4-small r 2 c in
    let held : Held a b (key_of r) hi (r ∷ g) =
    record {
      order = ascend-of a b (key_of r) r g (record { one = f.one; two = f.two; low = omega arith; after = order });
      inside = unfold above in (omega arith);
      over = omega arith;
    } in
    head (entry_of (key_of r) (to i) small (h i (omega arith) (omega arith))) f.low held
    (heads-from a b k hi to (i + 1) gs u (each_back g (flat gs) q) (both-2 _ _ both-parts) (λ n l m. h n (omega arith) (omega arith)))

-- and they stay such where the first key becomes 0
pub heads-zero : (a b lo : ℕ) (to : ℕ → ℕ) (i : ℕ) (es : List (List ℕ)) (gs : List (List (List ℕ))) → Heads a b to lo i es gs → to i < 65536
    → Heads a b to 0 i (from_zero es) gs
unfolding from_zero
heads-zero a b lo to i [] [] none h = none
heads-zero a b lo to i [] (g ∷ gs) x h = elim x [ ]
heads-zero a b lo to i (e ∷ es) [] x h = elim x [ ]
heads-zero a b lo to i (e ∷ es) (g ∷ gs) (head {key = key} {hi = hi} x low held rest) h =
    let zeroed : Held a b 0 hi g =
    record {
      order = ascend-lower a b key 0 g (omega arith) held.order;
      inside = omega (arith, held.inside, above_lower 0 key g (omega arith));
      over = omega (arith, held.over);
    } in
    let least : 0 ≤ 0 = omega arith in
    rw x.to (head (entry_of 0 (to i) (omega arith) h) least zeroed rest)

-- ---- what entries over groups are like

module _ {a b : ℕ} {to : ℕ → ℕ} where
  -- as many as there are groups
  pub heads-length : {lo i : ℕ} {es : List (List ℕ)} {gs : List (List (List ℕ))} → Heads a b to lo i es gs → length es ≡ length gs
  heads-length none = refl
  heads-length (head x low held rest) = ap suc (heads-length rest)

  -- eight bytes long
  pub heads-long : {lo i : ℕ} {es : List (List ℕ)} {gs : List (List (List ℕ))} → Heads a b to lo i es gs → Each (Long 8) es
  heads-long none = nil
  heads-long (head x low held rest) = cons x.long (heads-long rest)

  -- of bytes
  pub heads-bytes : {lo i : ℕ} {es : List (List ℕ)} {gs : List (List (List ℕ))} → Heads a b to lo i es gs → Each Bytes es
  heads-bytes none = nil
  heads-bytes (head x low held rest) = cons x.bytes (heads-bytes rest)

  -- their marks and the order of their keys
  pub heads-ascend : {lo i : ℕ} {es : List (List ℕ)} {gs : List (List (List ℕ))} → Heads a b to lo i es gs → ascend 101 110 lo es ≡ true
  heads-ascend none = unfold ascend in refl
  heads-ascend {lo} (head {key = key} {hi = hi} {e = e} {es = es} x low held rest) =
      ascend-of 101 110 lo e es
      (record {
        one = x.one;
        two = x.two;
        low = rw x.keyed low;
        after = ascend-lower 101 110 hi (key_of e + 1) es (rw x.keyed (omega (arith, held.over))) (heads-ascend rest);
      })

  -- the pages that they point to
  pub heads-pointing : {lo i : ℕ} {es : List (List ℕ)} {gs : List (List (List ℕ))} (first last : ℕ) → Heads a b to lo i es gs
      → Paged to i (length gs) (λ p. (first ≤ p) × (p ≤ last))
      → pointing first last es ≡ true
  unfolding pointing
  heads-pointing first last none h = refl
  heads-pointing {i = i} first last (head x low held rest) h =
      let q = h i (omega arith) (omega arith) in
      rw x.to
      (both-intro _ _ (le-leb first (to i) q.0)
      (both-intro _ _ (le-leb (to i) last q.1) (heads-pointing first last rest (λ n l m. h n (omega arith) (omega arith)))))

  -- none to a page that is no group's
  pub heads-none : {lo i : ℕ} {es : List (List ℕ)} {gs : List (List (List ℕ))} (q : ℕ) → Heads a b to lo i es gs
      → Paged to i (length gs) (λ p. p ≡ q → ⊥)
      → pointers q es ≡ 0
  unfolding pointers pick
  heads-none q none h = refl
  heads-none {i = i} q (head x low held rest) h =
      rw (x.to, ne_eqb (to i) q (h i (omega arith) (omega arith)), heads-none q rest (λ n l m. h n (omega arith) (omega arith)))

  -- and one to each group's, where no two have the same page
  pub heads-once : {lo i : ℕ} {es : List (List ℕ)} {gs : List (List (List ℕ))} (k : ℕ) → ((m n : ℕ) → to m ≡ to n → m ≡ n) → Heads a b to lo i es gs
      → i ≤ k → k < i + length gs
      → pointers (to k) es ≡ 1
  unfolding pointers pick
  heads-once k apart none h l = absurd (omega arith)
  heads-once {i = i} k apart (head x low held rest) h l =
      split i k
      (λ m. rw (x.to, ne_eqb (to i) (to k) (λ e. omega (arith, apart i k e)), heads-once k apart rest (omega arith) (omega arith)))
      (λ m. let e : i ≡ k = omega arith in
      rw (x.to, eq-eqb (to i) (to k) (ap to e), heads-none (to k) rest (λ n u v z. omega (arith, apart n k z))))
