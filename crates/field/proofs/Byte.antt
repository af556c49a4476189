-- Lists of bytes: what is made of bytes is of bytes. Assumes nothing.
use Prim.Native.Nat.{ℕ, zero, suc, ◌+◌, ◌-◌, ◌/◌, ◌%◌, ◌≤◌, ◌<◌}
use native.Mathlib.Omega.{arith}
use mathlib.Core.Path.{◌≡◌, refl}
use mathlib.Core.List.{List, [], ◌∷◌, ◌++◌}
use lib.ListN.{length, take, drop, length-take, get_or-append, get_or-eq_default}
use lib.Seq.{get_or-take, get_or-drop}
use Rattle.field.specs.Bytes.{part, put, zeroes, Bytes, bytes2, bytes4}
use Rattle.field.proofs.Part.{split, get_or_past}
use Rattle.field.proofs.Number.{bytes4-halves}

pub bytes-nil : Bytes []
bytes-nil i = omega arith

pub bytes-cons : (x : ℕ) (l : List ℕ) → x < 256 → Bytes l → Bytes (x ∷ l)
bytes-cons x l h b zero = h
bytes-cons x l h b (suc i) = b i

pub bytes-append : (a l : List ℕ) → Bytes a → Bytes l → Bytes (a ++ l)
bytes-append a l p q i =
    split i (length a)
    (λ h. rw (get_or-append a l 0 i h) (p i))
    (λ h. let d : ℕ = i - length a in
    let e : length a + d ≡ i = omega arith in
    rw (← e, get_or_past a l (length a) d refl) (q d))

pub bytes_take : (n : ℕ) (l : List ℕ) → Bytes l → Bytes (take n l)
bytes_take n l b i =
    split i n
    (λ h. rw (get_or-take n l i 0 h) (b i))
    (λ h. let k : length (take n l) ≤ i = simp length-take (omega arith) in
    rw (get_or-eq_default (take n l) 0 k) (omega arith))

pub bytes_drop : (n : ℕ) (l : List ℕ) → Bytes l → Bytes (drop n l)
bytes_drop n l b i = rw (get_or-drop n l i 0) (b (n + i))

pub bytes-part : (o n : ℕ) (l : List ℕ) → Bytes l → Bytes (part o n l)
unfolding part
bytes-part o n l b = bytes_take n (drop o l) (bytes_drop o l b)

pub bytes-put : (o : ℕ) (bs l : List ℕ) → Bytes bs → Bytes l → Bytes (put o bs l)
unfolding put
bytes-put o bs l p q =
    bytes-append (take o l) (bs ++ drop (o + length bs) l) (bytes_take o l q)
    (bytes-append bs (drop (o + length bs) l) p (bytes_drop (o + length bs) l q))

pub bytes-zeroes : (n : ℕ) → Bytes (zeroes n)
unfolding zeroes
bytes-zeroes zero = bytes-nil
bytes-zeroes (suc n) = bytes-cons 0 (zeroes n) (omega arith) (bytes-zeroes n)

pub bytes-bytes2 : (v : ℕ) → Bytes (bytes2 v)
unfolding bytes2
bytes-bytes2 v =
    let p : v % 256 < 256 = omega arith in
    let q : v / 256 % 256 < 256 = omega arith in
    bytes-cons (v % 256) (v / 256 % 256 ∷ []) p (bytes-cons (v / 256 % 256) [] q bytes-nil)

pub bytes-bytes4 : (v : ℕ) → Bytes (bytes4 v)
bytes-bytes4 v = rw (bytes4-halves v) (bytes-append (bytes2 v) (bytes2 (v / 65536)) (bytes-bytes2 v) (bytes-bytes2 (v / 65536)))
