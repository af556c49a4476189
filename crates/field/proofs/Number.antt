-- Laws of little-endian numbers in bytes. Four bytes are two numbers of two, so that each fact is shown for two bytes. Assumes nothing.
use Prim.Native.Nat.{ℕ, suc, ◌+◌, ◌*◌, ◌/◌, ◌%◌, ◌≤◌, ◌<◌}
use native.Mathlib.Nat.{add-zero}
use native.Mathlib.Numerals.{add-one, add-two, add-three}
use native.Mathlib.Omega.{arith}
use mathlib.Core.Path.{◌≡◌, refl, sym, ap, ap₂, ◌∙◌}
use mathlib.Core.Logic.{◌⊎◌}
use mathlib.Core.List.{List, [], ◌∷◌, ◌++◌, append_assoc, append-nil}
use lib.ListN.{length, drop, get_or, set}
use lib.Seq.{drop-cons}
use Rattle.field.specs.Bytes.{part, put, Bytes, le2, le4, bytes2, bytes4}
use Rattle.field.proofs.Part.{sets-put, get_or-part, part-drop, part-add, part-past, part-put-in, part-put-other}

-- ---- stores one after the other

pub set2 : (l : List ℕ) (i a b : ℕ) → i + 2 ≤ length l → set (set l i a) (i + 1) b ≡ put i (a ∷ b ∷ []) l
set2 l i a b h = rw add-one (sets-put (a ∷ b ∷ []) l i h)

pub set4 : (l : List ℕ) (i a b c d : ℕ) → i + 4 ≤ length l
    → set (set (set (set l i a) (i + 1) b) (i + 2) c) (i + 3) d ≡ put i (a ∷ b ∷ c ∷ d ∷ []) l
set4 l i a b c d h = simp (add-one, add-two, add-three) (sets-put (a ∷ b ∷ c ∷ d ∷ []) l i h)

-- ---- a number is that of its bytes, wherever they stand

pub le2-part : (o n : ℕ) (l : List ℕ) (i : ℕ) → i + 2 ≤ n → le2 (part o n l) i ≡ le2 l (o + i)
unfolding le2
le2-part o n l i h =
    let e : o + (i + 1) ≡ o + i + 1 = omega arith in
    ap₂ (λ (a b : ℕ). a + 256 * b) (get_or-part o n l i (omega arith)) (get_or-part o n l (i + 1) (omega arith) ∙ ap (λ (k : ℕ). get_or l k 0) e)

pub le4-halves : (l : List ℕ) (i : ℕ) → le4 l i ≡ le2 l i + 65536 * le2 l (i + 2)
unfolding le4 le2
le4-halves l i = let e : i + 3 ≡ i + 2 + 1 = omega arith in rw e (omega arith)

pub le4-part : (o n : ℕ) (l : List ℕ) (i : ℕ) → i + 4 ≤ n → le4 (part o n l) i ≡ le4 l (o + i)
le4-part o n l i h =
    let e : o + (i + 2) ≡ o + i + 2 = omega arith in
    rw (le4-halves (part o n l) i, le2-part o n l i (omega arith), le2-part o n l (i + 2) (omega arith), e, ← le4-halves l (o + i))

-- where two lists have the same bytes, they have the same number
pub le2-same : (l m : List ℕ) (i j : ℕ) → part i 2 l ≡ part j 2 m → le2 l i ≡ le2 m j
le2-same l m i j e =
    rw (← add-zero i, ← add-zero j, ← le2-part i 2 l 0 (omega arith), ← le2-part j 2 m 0 (omega arith), e)

pub le4-same : (l m : List ℕ) (i j : ℕ) → part i 4 l ≡ part j 4 m → le4 l i ≡ le4 m j
le4-same l m i j e =
    rw (← add-zero i, ← add-zero j, ← le4-part i 4 l 0 (omega arith), ← le4-part j 4 m 0 (omega arith), e)

-- a number in a list without its front
pub le2-drop : (o i : ℕ) (l : List ℕ) → le2 (drop o l) i ≡ le2 l (o + i)
le2-drop o i l = le2-same (drop o l) l i (o + i) (part-drop o i 2 l)

pub le4-drop : (o i : ℕ) (l : List ℕ) → le4 (drop o l) i ≡ le4 l (o + i)
le4-drop o i l = le4-same (drop o l) l i (o + i) (part-drop o i 4 l)

-- a number beside a write
pub le2-put-other : (i o : ℕ) (bs l : List ℕ) → i + 2 ≤ length l → o + length bs ≤ length l → (i + 2 ≤ o) ⊎ (o + length bs ≤ i)
    → le2 (put o bs l) i ≡ le2 l i
le2-put-other i o bs l h k side = le2-same (put o bs l) l i i (part-put-other i 2 o bs l h k side)

pub le4-put-other : (i o : ℕ) (bs l : List ℕ) → i + 4 ≤ length l → o + length bs ≤ length l → (i + 4 ≤ o) ⊎ (o + length bs ≤ i)
    → le4 (put o bs l) i ≡ le4 l i
le4-put-other i o bs l h k side = le4-same (put o bs l) l i i (part-put-other i 4 o bs l h k side)

-- a number within a write
pub le2-put-in : (o i : ℕ) (bs l : List ℕ) → i + 2 ≤ length bs → o + length bs ≤ length l → le2 (put o bs l) (o + i) ≡ le2 bs i
le2-put-in o i bs l h k = le2-same (put o bs l) bs (o + i) i (part-put-in o i 2 bs l h k)

pub le4-put-in : (o i : ℕ) (bs l : List ℕ) → i + 4 ≤ length bs → o + length bs ≤ length l → le4 (put o bs l) (o + i) ≡ le4 bs i
le4-put-in o i bs l h k = le4-same (put o bs l) bs (o + i) i (part-put-in o i 4 bs l h k)

-- ---- the bytes of a number

pub length-bytes2 : (v : ℕ) → length (bytes2 v) ≡ 2
unfolding bytes2
length-bytes2 v = refl

pub length-bytes4 : (v : ℕ) → length (bytes4 v) ≡ 4
unfolding bytes4
length-bytes4 v = refl

pub bytes4-halves : (v : ℕ) → bytes4 v ≡ bytes2 v ++ bytes2 (v / 65536)
unfolding bytes4 bytes2
bytes4-halves v = let e : v / 65536 / 256 ≡ v / 16777216 = omega arith in rw e

-- a number that is written is read, wherever it stands
le2-front : (v : ℕ) (l : List ℕ) → le2 (bytes2 v ++ l) 0 ≡ v % 65536
unfolding le2 bytes2
le2-front v l = omega arith

pub le2-bytes2 : (v : ℕ) (l : List ℕ) → v < 65536 → le2 (bytes2 v ++ l) 0 ≡ v
le2-bytes2 v l h = let e : v % 65536 ≡ v = omega arith in le2-front v l ∙ e

pub le4-bytes4 : (v : ℕ) (l : List ℕ) → v < 4294967296 → le4 (bytes4 v ++ l) 0 ≡ v
le4-bytes4 v l h =
    let a : List ℕ = bytes2 v in
    let b : List ℕ = bytes2 (v / 65536) in
    let e : v % 65536 + 65536 * (v / 65536 % 65536) ≡ v = omega arith in
    let f : part 2 2 (a ++ (b ++ l)) ≡ part 0 2 (b ++ l) = part-past a (b ++ l) 2 0 2 (length-bytes2 v) in
    rw (bytes4-halves v, append_assoc a b l, le4-halves (a ++ (b ++ l)) 0, le2-front v (b ++ l), le2-same (a ++ (b ++ l)) (b ++ l) 2 0 f, le2-front (v / 65536) l) e

pub le2-put : (i v : ℕ) (l : List ℕ) → v < 65536 → i + 2 ≤ length l → le2 (put i (bytes2 v) l) i ≡ v
le2-put i v l h k =
    let e : length (bytes2 v) ≡ 2 = length-bytes2 v in
    ap (le2 (put i (bytes2 v) l)) (sym (add-zero i)) ∙ le2-put-in i 0 (bytes2 v) l (omega arith) (omega arith)
    ∙ rw (← append-nil (bytes2 v)) (le2-bytes2 v [] h)

pub le4-put : (i v : ℕ) (l : List ℕ) → v < 4294967296 → i + 4 ≤ length l → le4 (put i (bytes4 v) l) i ≡ v
le4-put i v l h k =
    let e : length (bytes4 v) ≡ 4 = length-bytes4 v in
    ap (le4 (put i (bytes4 v) l)) (sym (add-zero i)) ∙ le4-put-in i 0 (bytes4 v) l (omega arith) (omega arith)
    ∙ rw (← append-nil (bytes4 v)) (le4-bytes4 v [] h)

-- ---- bytes: a number of them is small, and its bytes are those

pub le2-small : (l : List ℕ) (i : ℕ) → Bytes l → le2 l i < 65536
unfolding le2
le2-small l i b = omega (arith, b i, b (i + 1))

pub le4-small : (l : List ℕ) (i : ℕ) → Bytes l → le4 l i < 4294967296
le4-small l i b = rw (le4-halves l i) (omega (arith, le2-small l i b, le2-small l (i + 2) b))

pub bytes2-le2 : (l : List ℕ) (i : ℕ) → Bytes l → i + 2 ≤ length l → bytes2 (le2 l i) ≡ part i 2 l
unfolding bytes2 le2 part
bytes2-le2 l i b h =
    let x : ℕ = get_or l i 0 in
    let y : ℕ = get_or l (i + 1) 0 in
    let p : (x + 256 * y) % 256 ≡ x = omega (arith, b i) in
    let q : (x + 256 * y) / 256 ≡ y = omega (arith, b i) in
    let r : y % 256 ≡ y = omega (arith, b (i + 1)) in
    rw (p, q, r, add-one i, drop-cons l i 0 (omega arith), drop-cons l (suc i) 0 (omega arith))

pub bytes4-le4 : (l : List ℕ) (i : ℕ) → Bytes l → i + 4 ≤ length l → bytes4 (le4 l i) ≡ part i 4 l
bytes4-le4 l i b h =
    let x : ℕ = le2 l i in
    let y : ℕ = le2 l (i + 2) in
    let hx : x < 65536 = le2-small l i b in
    let q : (x + 65536 * y) / 65536 ≡ y = omega arith in
    let p : bytes2 (x + 65536 * y) ≡ bytes2 x = unfold bytes2 in
    (let p0 : (x + 65536 * y) % 256 ≡ x % 256 = omega arith in
    let p1 : (x + 65536 * y) / 256 ≡ x / 256 + 256 * y = omega arith in
    let p2 : (x / 256 + 256 * y) % 256 ≡ x / 256 % 256 = omega arith in
    rw (p0, p1, p2)) in
    rw (le4-halves l i, bytes4-halves (x + 65536 * y), q, p, bytes2-le2 l i b (omega arith), bytes2-le2 l (i + 2) b (omega arith), part-add i 2 2 l)
