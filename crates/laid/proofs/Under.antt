-- Entries over groups and pages that hold the groups: the rows below the entries are the groups' rows, their keys stand between the
-- entries', and a base page's first key is its entry's. Assumes nothing.
use Prim.Native.Nat.{ℕ, suc, ◌+◌, ◌≤◌, ◌<◌}
use native.Mathlib.Nat.{not-suc-le-zero, add-zero}
use native.Mathlib.Omega.{arith}
use mathlib.Core.Path.{◌≡◌, refl, sym}
use mathlib.Core.Bool.{true}
use mathlib.Core.List.{List, [], ◌∷◌}
use lib.ListN.{length, get_or}
use borrow.Author.Tests.{eq-eqb, le-leb, lt-ltb}
use Rattle.field.specs.Bytes.{Bytes, le4}
use Rattle.field.proofs.Test.{both-intro}
use Rattle.field.proofs.Number.{le4-small}
use Rattle.page.specs.Page.{key_of, to_page, entry, ascend, rows}
use Rattle.page.specs.Change.{above}
use Rattle.page.specs.Each.{Each, cons}
use Rattle.page.proofs.Order.{First, ascend-facts}
use Rattle.tree.specs.Tree.{under, below, starts_at_zero, headed, lower, keys_between, keys_kept}
use Rattle.tree.specs.Layout.{entries_to, from_zero}
use Rattle.laid.proofs.Groups.{flat, Sized, done, more, each_back}
use Rattle.laid.proofs.Heads.{Entry, key-entry, entry_of, Heads, none, head, Paged, above-least}

-- the pages of ps hold the groups, the first being group i, as rows of sz bytes
abbrev pub Holds : (sz : ℕ) (ps : List (List ℕ)) (to : ℕ → ℕ) (i : ℕ) → List (List (List ℕ)) → Type 0
Holds sz ps to i gs = (k : ℕ) → k < length gs → rows sz (get_or ps (to (i + k)) []) ≡ get_or gs k []

module _ (sz : ℕ) (to : ℕ → ℕ) (i : ℕ) (ps g : List (List ℕ)) (gs : List (List (List ℕ))) (h : Holds sz ps to i (g ∷ gs)) where
  -- all but the first
  holds-rest : Holds sz ps to (i + 1) gs
  holds-rest k l = let e : i + 1 + k ≡ i + suc k = omega arith in rw e (h (suc k) (omega arith))

  -- the rows under an entry to the first
  rows_under_lem : (e : List ℕ) → to_page e ≡ to i → rows sz (under ps e) ≡ g
  unfolding under
  rows_under_lem e t = rw t (rw (add-zero i) at (h 0 (omega arith)))

-- keys of rows in order, all below hi, stand between an entry's key and a next entry's that is hi or more
between : (a b lo at hi : ℕ) (next g : List (List ℕ)) → ((x : ℕ) → x < hi → lower x next ≡ true) → lo ≤ at → ascend a b at g ≡ true
    → above at g ≤ hi
    → keys_between lo next g ≡ true
unfolding keys_between above
between a b lo at hi next [] n h e k = refl
between a b lo at hi next (r ∷ g) n h e k =
    let f : First a b at r g = ascend-facts a b at r g e in
    both-intro _ _ (le-leb lo (key_of r) (omega (arith, f.low)))
    (both-intro _ _ (n (key_of r) (omega (arith, above-least a b (key_of r + 1) g f.after)))
    (between a b lo (key_of r + 1) hi next g n (omega (arith, f.low)) f.after k))

module _ {a b : ℕ} {to : ℕ → ℕ} where
  -- a key below the entries' least is lower than the first of them
  heads-lower : {lo i : ℕ} {es : List (List ℕ)} {gs : List (List (List ℕ))} (x : ℕ) → Heads a b to lo i es gs → x < lo → lower x es ≡ true
  unfolding lower
  heads-lower x none h = refl
  heads-lower x (head {key = key} y low held rest) h = rw y.keyed (lt-ltb x key (omega arith))

  module _ (sz : ℕ) (ps : List (List ℕ)) where
    -- the rows below the entries are those of the groups
    pub heads-below : {lo i : ℕ} {es : List (List ℕ)} {gs : List (List (List ℕ))} → Heads a b to lo i es gs → Holds sz ps to i gs
        → below sz ps es ≡ flat gs
    unfolding below
    heads-below none h = refl
    heads-below {i = i} (head {e = e} {g = g} {gs = gs} x low held rest) h =
        rw (rows_under_lem sz to i ps g gs h e x.to, heads-below rest (holds-rest sz to i ps g gs h))

    -- and their keys stand between the entries'
    pub heads-kept : {lo i : ℕ} {es : List (List ℕ)} {gs : List (List (List ℕ))} → Heads a b to lo i es gs → Holds sz ps to i gs
        → keys_kept sz ps es ≡ true
    unfolding keys_kept
    heads-kept none h = refl
    heads-kept {i = i} (head {key = key} {hi = hi} {e = e} {es = es} {g = g} {gs = gs} x low held rest) h =
        rw (x.keyed, rows_under_lem sz to i ps g gs h e x.to)
        (both-intro _ _
        (between a b key key hi es g (λ y k. heads-lower y rest k) (omega arith) held.order held.inside)
        (heads-kept rest (holds-rest sz to i ps g gs h)))

-- a base page's first key is that of the entry which `entries_to` makes for it
pub from-headed : (to : ℕ → ℕ) (i k : ℕ) (ps : List (List ℕ)) (gs : List (List (List ℕ))) → Sized k gs → Each Bytes (flat gs)
    → Paged to i (length gs) (λ p. p < 65536) → Holds 8 ps to i gs
    → headed ps (entries_to to i gs) ≡ true
unfolding headed entries_to
from-headed to i k ps [] done q h held = refl
from-headed to i k ps ([] ∷ gs) (more s t u) q h held = absurd (not-suc-le-zero s)
from-headed to i k ps ((r ∷ g) ∷ gs) (more s t u) (cons c q) h held =
    let small : key_of r < 4294967296 = unfold key_of in le4-small r 2 c in
    let x : Entry (key_of r) (to i) (entry (key_of r) (to i)) = entry_of (key_of r) (to i) small (h i (omega arith) (omega arith)) in
    rw (rows_under_lem 8 to i ps (r ∷ g) gs held (entry (key_of r) (to i)) x.to)
    (both-intro _ _ (eq-eqb (key_of r) (key_of (entry (key_of r) (to i))) (sym x.keyed))
    (from-headed to (i + 1) k ps gs u (each_back g (flat gs) q) (λ n l m. h n (omega arith) (omega arith)) (holds-rest 8 to i ps (r ∷ g) gs held)))

-- an entry with key 0
zero-key : (p : ℕ) → key_of (entry 0 p) ≡ 0
zero-key p = key-entry 0 p (omega arith)

-- the leftmost entry of all has key 0
pub zero-first : (es : List (List ℕ)) → key_of (get_or (from_zero es) 0 []) ≡ 0
unfolding from_zero
zero-first [] = unfold key_of le4 in refl
zero-first (e ∷ es) = zero-key (to_page e)

-- and so has the first entry over such entries
pub from-starts : (to : ℕ → ℕ) (i k : ℕ) (gs : List (List (List ℕ))) → Sized k gs → key_of (get_or (flat gs) 0 []) ≡ 0
    → starts_at_zero (entries_to to i gs) ≡ true
unfolding starts_at_zero entries_to
from-starts to i k [] done e = refl
from-starts to i k ([] ∷ gs) (more s t u) e = absurd (not-suc-le-zero s)
from-starts to i k ((r ∷ g) ∷ gs) (more s t u) e = rw e (eq-eqb (key_of (entry 0 (to i))) 0 (zero-key (to i)))
