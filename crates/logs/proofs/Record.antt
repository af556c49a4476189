-- The bytes of each record of the log: how many they are, that they never begin with zero, and that they are bytes. Assumes nothing.
use Prim.Native.Nat.{ℕ, zero, suc, ◌-◌, ◌*◌, ◌≤◌, ◌<◌}
use native.Mathlib.Omega.{arith}
use mathlib.Core.Path.{◌≡◌, refl, sym, ◌∙◌}
use mathlib.Core.List.{List, [], ◌∷◌, ◌++◌}
use mathlib.Core.Option.{Option, some, none}
use lib.ListN.{length, get_or, length-append}
use Rattle.field.specs.Bytes.{Bytes, le4, bytes2, bytes4, most4}
use Rattle.field.proofs.Number.{le4-drop, le4-bytes4}
use Rattle.field.proofs.Zero.{length-zeroes}
use Rattle.field.proofs.Byte.{bytes-nil, bytes-cons, bytes-append, bytes-zeroes, bytes-bytes2, bytes-bytes4}
use Rattle.page.specs.Page.{joined}
use Rattle.page.specs.Each.{Each, Long}
use Rattle.page.proofs.Rows.{length-joined, bytes-joined}
use Rattle.logs.specs.Record.{Kind, check, length_of, Check, Rec, LB, LO, LI, LM, LG, LE, kind_of, carried, size, header, fields, lk_bytes, encode_check, new_key, body, previous, encode}

-- ---- lengths

-- a header has 12 bytes
pub length-header : (c : Kind) (long n before : ℕ) → length (header c long n before) ≡ 12
unfolding header bytes2 bytes4
length-header c long n before = refl

-- n fields have two bytes each
pub length_fields : (n : ℕ) (ps : List ℕ) → length (fields n ps) ≡ 2 * n
unfolding fields bytes2
length_fields zero ps = refl
length_fields (suc n) [] = omega (arith, length_fields n [])
length_fields (suc n) (p ∷ ps) = omega (arith, length_fields n ps)

-- LK has 8 bytes, present or not
pub length-lk_bytes : (lk : Option ℕ) → length (lk_bytes lk) ≡ 8
unfolding lk_bytes bytes4
length-lk_bytes none = length-zeroes 8
length-lk_bytes (some k) = refl

-- a check record has 24 bytes
pub length-encode_check : (c : Check) → length (encode_check c) ≡ 24
unfolding encode_check header bytes2 bytes4
length-encode_check c = omega (arith, length-lk_bytes c.lk)

-- what a record carries is as long as its kind says: 16 bytes a row, 256 an image
abbrev pub Sized : Rec → Type 0
Sized r = Each (Long (kind_of r).each) (carried r)

-- no record is shorter than an LE
pub size-least : (r : Rec) → 16 ≤ size r
unfolding size length_of kind_of carried
size-least (LB g) = omega arith
size-least (LO org dest rs) = omega arith
size-least (LI org dest back rs) = omega arith
size-least (LM base old new key) = omega arith
size-least (LG i) = omega arith
size-least (LE unit images) = omega arith

-- a record has as many bytes as its size says
pub length-encode : (n : ℕ) (r : Rec) → Sized r → length (encode n r) ≡ size r
unfolding encode header body size length_of kind_of carried bytes2 bytes4
length-encode n (LB g) h =
    let b : length (fields 2 g.bases) ≡ 4 = length_fields 2 g.bases in
    let l : length (fields 8 g.leaves) ≡ 16 = length_fields 8 g.leaves in
    let s : length (joined g.saved) ≡ 16 * length g.saved = length-joined 16 g.saved h in
    simp length-append (omega arith)
length-encode n (LO org dest rs) h = omega (arith, length-joined 16 rs h)
length-encode n (LI org dest back rs) h = refl
length-encode n (LM base old new key) h = refl
length-encode n (LG i) (Each.cons h p) = omega arith
length-encode n (LE unit images) h = refl

-- a record begins with `L`, so the zeros after the log are none
pub encode-first : (n : ℕ) (r : Rec) (l : List ℕ) → get_or (encode n r ++ l) 0 0 ≡ 76
unfolding encode header
encode-first n r l = refl

-- a record's number, read off its bytes
pub number_read : (n : ℕ) (r : Rec) (rest : List ℕ) → n ≤ most4 → le4 (encode n r ++ rest) 4 ≡ n
unfolding encode header bytes2
number_read n r rest h = sym (le4-drop 4 0 (encode n r ++ rest)) ∙ (unfold bytes4 in le4-bytes4 n _ (omega arith))

-- ---- bytes

-- what stands in one byte of a record is below 256, and its rows are bytes
abbrev pub Narrow : Rec → Type 0
Narrow (LB g) = (g.type < 256) × (g.fill < 256) × (length g.bases < 256) × (length g.leaves < 256) × Each Bytes g.saved
Narrow (LO org dest rs) = Each Bytes rs
Narrow (LI org dest back rs) = Unit {0}
Narrow (LM base old new key) = Unit {0}
Narrow (LG i) = Bytes i.bytes
Narrow (LE unit images) = Unit {0}

-- two bytes and four in front of bytes
two : (v : ℕ) (l : List ℕ) → Bytes l → Bytes (bytes2 v ++ l)
two v l b = bytes-append (bytes2 v) l (bytes-bytes2 v) b

four : (v : ℕ) (l : List ℕ) → Bytes l → Bytes (bytes4 v ++ l)
four v l b = bytes-append (bytes4 v) l (bytes-bytes4 v) b

-- a header is of bytes
pub bytes-header : (c : Kind) (long n before : ℕ) → c.sign < 256 → Bytes (header c long n before)
unfolding header
bytes-header c long n before h =
    let t : Bytes (bytes2 long ++ (bytes4 n ++ bytes4 before)) = two long (bytes4 n ++ bytes4 before) (four n (bytes4 before) (bytes-bytes4 before)) in
    let m : 76 < 256 = omega arith in
    bytes-cons 76 (c.sign ∷ (bytes2 long ++ (bytes4 n ++ bytes4 before))) m (bytes-cons c.sign (bytes2 long ++ (bytes4 n ++ bytes4 before)) h t)

-- fields are of bytes
pub bytes-fields : (n : ℕ) (ps : List ℕ) → Bytes (fields n ps)
unfolding fields
bytes-fields zero ps = bytes-nil
bytes-fields (suc n) [] = two 0 (fields n []) (bytes-fields n [])
bytes-fields (suc n) (p ∷ ps) = two p (fields n ps) (bytes-fields n ps)

-- LK is of bytes
pub bytes-lk_bytes : (lk : Option ℕ) → Bytes (lk_bytes lk)
unfolding lk_bytes
bytes-lk_bytes none = bytes-zeroes 8
bytes-lk_bytes (some k) =
    let z : 0 < 256 = omega arith in
    let o : 1 < 256 = omega arith in
    bytes-cons 1 (0 ∷ 0 ∷ 0 ∷ bytes4 k) o (bytes-cons 0 (0 ∷ 0 ∷ bytes4 k) z (bytes-cons 0 (0 ∷ bytes4 k) z (bytes-cons 0 (bytes4 k) z (bytes-bytes4 k))))

-- a check record is of bytes
pub bytes-encode_check : (c : Check) → Bytes (encode_check c)
unfolding encode_check
bytes-encode_check c =
    bytes-append (header check (length_of check 0) c.number 0) (bytes4 c.unit ++ lk_bytes c.lk) (bytes-header check (length_of check 0) c.number 0 (omega arith))
    (four c.unit (lk_bytes c.lk) (bytes-lk_bytes c.lk))

-- a body is of bytes
bytes-body : (n : ℕ) (r : Rec) → Narrow r → Bytes (body n r)
unfolding body
bytes-body n (LB g) h =
    let d : List ℕ = bytes2 g.dest ++ (bytes2 0 ++ joined g.saved) in
    let l : List ℕ = fields 8 g.leaves ++ d in
    let b : List ℕ = fields 2 g.bases ++ l in
    let m : ℕ = length g.bases in
    let k : ℕ = length g.leaves in
    let bl : Bytes l = bytes-append (fields 8 g.leaves) d (bytes-fields 8 g.leaves) (two g.dest (bytes2 0 ++ joined g.saved) (two 0 (joined g.saved) (bytes-joined g.saved h.4))) in
    let bb : Bytes b = bytes-append (fields 2 g.bases) l (bytes-fields 2 g.bases) bl in
    four g.unit (g.type ∷ g.fill ∷ m ∷ k ∷ b)
    (bytes-cons g.type (g.fill ∷ m ∷ k ∷ b) h.0 (bytes-cons g.fill (m ∷ k ∷ b) h.1 (bytes-cons m (k ∷ b) h.2 (bytes-cons k b h.3 bb))))
bytes-body n (LO org dest rs) h = two org _ (two dest _ (two (length rs) _ (two 0 (joined rs) (bytes-joined rs h))))
bytes-body n (LI org dest back rs) h = two org _ (two dest _ (two (length rs) _ (two 0 (bytes4 (n - back)) (bytes-bytes4 (n - back)))))
bytes-body n (LM base old new key) h =
    two base _ (two old _ (two new _ (two 0 _ (four key (bytes4 (new_key new key)) (bytes-bytes4 (new_key new key))))))
bytes-body n (LG i) h = two i.at _ (two 0 i.bytes h)
bytes-body n (LE unit images) h = bytes-bytes4 unit

-- a mark's letter is a byte
sign_small : (r : Rec) → (kind_of r).sign < 256
unfolding kind_of
sign_small (LB g) = omega arith
sign_small (LO org dest rs) = omega arith
sign_small (LI org dest back rs) = omega arith
sign_small (LM base old new key) = omega arith
sign_small (LG i) = omega arith
sign_small (LE unit images) = omega arith

-- a record is of bytes
pub bytes-encode : (n : ℕ) (r : Rec) → Narrow r → Bytes (encode n r)
unfolding encode
bytes-encode n r h =
    bytes-append (header (kind_of r) (size r) n (previous n r)) (body n r) (bytes-header (kind_of r) (size r) n (previous n r) (sign_small r)) (bytes-body n r h)
