-- Writes one after the other are one write of all their bytes: how the code writes a record. Assumes nothing.
use Prim.Native.Nat.{ℕ, zero, suc, ◌+◌, ◌-◌, ◌*◌, ◌≤◌, ◌<◌}
use native.Mathlib.Nat.{add-zero, add_assoc}
use native.Mathlib.Numerals.{add-one}
use native.Mathlib.Omega.{arith}
use mathlib.Core.Path.{◌≡◌, refl, sym, ap, ◌∙◌}
use mathlib.Core.Bool.{Bool, true, false}
use mathlib.Core.List.{List, [], ◌∷◌, ◌++◌, append-nil, append_assoc}
use lib.ListN.{length, get_or, take-append-drop, length-append}
use lib.Seq.{take_all}
use Rattle.field.specs.Test.{pick}
use Rattle.field.specs.Bytes.{put, bytes2, bytes4, zeroes}
use Rattle.field.proofs.Part.{put_next, length-put}
use Rattle.field.proofs.Number.{length-bytes2}
use Rattle.page.specs.Page.{joined, rows_of}
use Rattle.page.proofs.Rows.{joined-rows_of, length-rows_of}
use Rattle.logs.specs.Record.{Kind, check, begin, into, modify, image, length_of, LB, LO, LI, LM, LG, LE, kind_of, carried, size}
use Rattle.logs.specs.Record.{header, fields, lk_bytes, encode_check, new_key, body, previous, encode}
use Rattle.logs.specs.Table.{kind_at, kinds}
use Rattle.logs.specs.Write.{unit_head, paged, in_bytes, lk_of, check_of, begin_of, save_of, start_of, image_of, image_head}
use Rattle.logs.proofs.Record.{length_fields}

-- the runs bs written one behind the other, the first at the offset at + o
abbrev pub puts : (at o : ℕ) → List (List ℕ) → List ℕ → List ℕ
puts at o [] l = l
puts at o (b ∷ bs) l = puts at (o + length b) bs (put (at + o) b l)

put-nil : (i : ℕ) (l : List ℕ) → put i [] l ≡ l
unfolding put
put-nil i l = rw (add-zero i) (take-append-drop i l)

pub puts-put : (at o : ℕ) (bs : List (List ℕ)) (l : List ℕ) → at + o + length (joined bs) ≤ length l → puts at o bs l ≡ put (at + o) (joined bs) l
unfolding joined
puts-put at o [] l h = sym (put-nil (at + o) l)
puts-put at o (b ∷ bs) l h =
    let e : length (b ++ joined bs) ≡ length b + length (joined bs) = length-append b (joined bs) in
    let p : length (put (at + o) b l) ≡ length l = length-put (at + o) b l (omega arith) in
    puts-put at (o + length b) bs (put (at + o) b l) (omega arith)
    ∙ rw (← add_assoc at o (length b)) (put_next (at + o) b (joined bs) l (omega arith))

-- from the offset itself on
pub puts-all : (at : ℕ) (bs : List (List ℕ)) (l m : List ℕ) → joined bs ≡ m → at + length m ≤ length l → puts at 0 bs l ≡ put at m l
puts-all at bs l m e h =
    let k : at + 0 + length (joined bs) ≤ length l = rw e (omega arith) in
    puts-put at 0 bs l k ∙ rw (add-zero at, e)

-- an LO is its front and its records
pub encode-out : (n org dest : ℕ) (rs : List (List ℕ)) → encode n (LO org dest rs) ≡ paged (kind_at 2) (length rs) n org dest (length rs) ++ joined rs
unfolding encode body previous kind_of size carried paged header bytes2 bytes4 kind_at kinds
encode-out n org dest rs = refl

-- ---- the runs that the code writes, in order

module _ (l : List ℕ) (at : ℕ) where
  pub header-puts : (c : Kind) (long n before : ℕ) → at + 12 ≤ length l
      → put (at + 8) (bytes4 before) (put (at + 4) (bytes4 n) (put (at + 2) (bytes2 long) (put at (76 ∷ c.sign ∷ []) l))) ≡ put at (header c long n before) l
  unfolding header bytes2 bytes4 joined
  header-puts c long n before h =
      rw (← puts-all at ((76 ∷ c.sign ∷ []) ∷ bytes2 long ∷ bytes4 n ∷ bytes4 before ∷ []) l (header c long n before) refl h, add-zero at)

  pub unit-puts : (c : Kind) (k n before unit : ℕ) → at + 16 ≤ length l
      → put (at + 12) (bytes4 unit) (put at (header c (length_of c k) n before) l) ≡ put at (unit_head c k n before unit) l
  unfolding unit_head header bytes2 bytes4 joined
  unit-puts c k n before unit h =
      rw (← puts-all at (header c (length_of c k) n before ∷ bytes4 unit ∷ []) l (unit_head c k n before unit) refl h, add-zero at)

  pub paged-puts : (d : Kind) (k n a b c : ℕ) → at + 20 ≤ length l
      → put (at + 18) (bytes2 0) (put (at + 16) (bytes2 c) (put (at + 14) (bytes2 b) (put (at + 12) (bytes2 a) (put at (header d (length_of d k) n (n - 1)) l))))
      ≡ put at (paged d k n a b c) l
  unfolding paged header bytes2 bytes4 joined
  paged-puts d k n a b c h =
      rw (← puts-all at (header d (length_of d k) n (n - 1) ∷ bytes2 a ∷ bytes2 b ∷ bytes2 c ∷ bytes2 0 ∷ []) l (paged d k n a b c) refl h, add-zero at)

  pub in-puts : (n org dest back k : ℕ) → at + 24 ≤ length l
      → put (at + 20) (bytes4 (n - back)) (put at (paged (kind_at 3) 0 n org dest k) l) ≡ put at (in_bytes n org dest back k) l
  unfolding in_bytes paged header bytes2 bytes4 joined kind_at kinds
  in-puts n org dest back k h =
      rw (← puts-all at (paged into 0 n org dest k ∷ bytes4 (n - back) ∷ []) l (in_bytes n org dest back k) refl h, add-zero at)

  pub modify-puts : (n base old new key : ℕ) → at + 28 ≤ length l
      → put (at + 24) (bytes4 (new_key new key)) (put (at + 20) (bytes4 key) (put at (paged (kind_at 4) 0 n base old new) l)) ≡ put at (encode n (LM base old new key)) l
  unfolding encode body previous kind_of size carried paged header bytes2 bytes4 joined kind_at kinds
  modify-puts n base old new key h =
      rw (← puts-all at (paged modify 0 n base old new ∷ bytes4 key ∷ bytes4 (new_key new key) ∷ []) l (encode n (LM base old new key)) refl h, add-zero at)

  pub out-puts : (n org dest k : ℕ) (rs : List ℕ) → length rs ≡ 16 * k → at + 20 + 16 * k ≤ length l
      → put (at + 20) rs (put at (paged (kind_at 2) k n org dest k) l) ≡ put at (encode n (LO org dest (rows_of 16 k rs))) l
  out-puts n org dest k rs e h =
      let q : joined (rows_of 16 k rs) ≡ rs = joined-rows_of 16 k rs ∙ take_all (16 * k) rs (omega arith) in
      let m : length (rows_of 16 k rs) ≡ k = length-rows_of 16 k rs in
      let f : encode n (LO org dest (rows_of 16 k rs)) ≡ paged (kind_at 2) k n org dest k ++ rs = encode-out n org dest (rows_of 16 k rs) ∙ rw (m, q) in
      let w : length (paged (kind_at 2) k n org dest k) ≡ 20 = unfold paged header bytes2 bytes4 in refl in
      rw (f, ← w) (put_next at (paged (kind_at 2) k n org dest k) rs l (omega arith))

-- LK as two numbers of four bytes: whether it is there, and the key
lk-runs : (there : Bool) (key : ℕ) → lk_bytes (lk_of there key) ≡ bytes4 (pick there 1 0) ++ bytes4 (pick there key 0)
unfolding lk_bytes lk_of pick bytes4 zeroes
lk-runs true key = refl
lk-runs false key = refl

pub check-puts : (l : List ℕ) (n unit : ℕ) (there : Bool) (key : ℕ) → 24 ≤ length l
    → put 20 (bytes4 (pick there key 0)) (put 16 (bytes4 (pick there 1 0)) (put 12 (bytes4 unit) (put 0 (header (kind_at 0) (length_of (kind_at 0) 0) n 0) l)))
    ≡ put 0 (encode_check (check_of n unit there key)) l
unfolding header bytes2 bytes4 joined kind_at kinds
check-puts l n unit there key h =
    let e : encode_check (check_of n unit there key) ≡ header check (length_of check 0) n 0 ++ (bytes4 unit ++ (bytes4 (pick there 1 0) ++ bytes4 (pick there key 0))) =
    unfold encode_check check_of in rw (lk-runs there key) in
    let k : 0 + length (header check (length_of check 0) n 0 ++ (bytes4 unit ++ (bytes4 (pick there 1 0) ++ bytes4 (pick there key 0)))) ≤ length l = h in
    rw e (puts-all 0 (header check (length_of check 0) n 0 ∷ bytes4 unit ∷ bytes4 (pick there 1 0) ∷ bytes4 (pick there key 0) ∷ []) l _ refl k)

-- an LE is a header and its unit number
pub encode-end : (n unit : ℕ) → encode n (LE unit []) ≡ unit_head (kind_at 5) 0 n (n - 1) unit
unfolding encode body previous kind_of size carried unit_head kind_at kinds
encode-end n unit = refl

-- an LI says of its records only how many they are
pub encode-in : (n org dest back : ℕ) (rs : List (List ℕ)) → encode n (LI org dest back rs) ≡ in_bytes n org dest back (length rs)
unfolding encode body previous kind_of size carried in_bytes paged header bytes2 bytes4
encode-in n org dest back rs = refl

-- ---- an LB

-- one field more
fields-more : (i : ℕ) (ps : List ℕ) → fields (suc i) ps ≡ fields i ps ++ bytes2 (get_or ps i 0)
unfolding fields
fields-more zero [] = append-nil (bytes2 0)
fields-more zero (p ∷ ps) = append-nil (bytes2 p)
fields-more (suc i) [] = ap (λ (x : List ℕ). bytes2 0 ++ x) (fields-more i []) ∙ sym (append_assoc (bytes2 0) (fields i []) (bytes2 0))
fields-more (suc i) (p ∷ ps) = ap (λ (x : List ℕ). bytes2 p ++ x) (fields-more i ps) ∙ sym (append_assoc (bytes2 p) (fields i ps) (bytes2 (get_or ps i 0)))

pub length-start : (k n unit kind fill : ℕ) (bs ls : List ℕ) (dest : ℕ) → length (start_of k n unit kind fill bs ls dest) ≡ 44
unfolding start_of unit_head header bytes2 bytes4
length-start k n unit kind fill bs ls dest =
    let a : length (fields 2 bs ++ (fields 8 ls ++ (bytes2 dest ++ bytes2 0))) ≡ 24 =
    length-append (fields 2 bs) _ ∙ rw (length-append (fields 8 ls) (bytes2 dest ++ bytes2 0), length_fields 2 bs, length_fields 8 ls) (unfold bytes2 in refl) in
    rw a

-- the loop that writes fields: its start, a turn, its end
module _ (d : List ℕ) (at : ℕ) (ps : List ℕ) where
  pub fields-none! : d ≡ put at (fields 0 ps) d
  unfolding fields
  fields-none! = sym (put-nil at d)

  pub fields-turn! : (i n v : ℕ) (s r : List ℕ) → s ≡ put at (fields i ps) d → v ≡ get_or ps i 0 → r ≡ put (at + 2 * i) (bytes2 v) s → i < n → at + 2 * n ≤ length d
      → r ≡ put at (fields (i + 1) ps) d
  fields-turn! i n v s r e q p h k =
      let l : length (fields i ps) ≡ 2 * i = length_fields i ps in
      let m : length (bytes2 v) ≡ 2 = length-bytes2 v in
      let z : fields (i + 1) ps ≡ fields i ps ++ bytes2 v = rw (add-one i, q) (fields-more i ps) in
      p ∙ rw (e, z, ← l) (put_next at (fields i ps) (bytes2 v) d (omega arith))

  pub fields-all! : (i n : ℕ) (s : List ℕ) → s ≡ put at (fields i ps) d → i ≤ n → n ≤ i → s ≡ put at (fields n ps) d
  fields-all! i n s e h k = let z : i ≡ n = omega arith in e ∙ rw z

-- all of an LB but the record that it carries
pub start-puts : (l : List ℕ) (at k n unit kind fill : ℕ) (bs ls : List ℕ) (dest : ℕ) → at + 44 ≤ length l
    → put (at + 42) (bytes2 0) (put (at + 40) (bytes2 dest) (put (at + 24) (fields 8 ls) (put (at + 20) (fields 2 bs)
    (put (at + 16) (kind ∷ fill ∷ length bs ∷ length ls ∷ []) (put at (unit_head (kind_at 1) k n 0 unit) l)))))
    ≡ put at (start_of k n unit kind fill bs ls dest) l
unfolding start_of unit_head header bytes2 bytes4 joined kind_at kinds length_of
start-puts l at k n unit kind fill bs ls dest h =
    let e : length (start_of k n unit kind fill bs ls dest) ≡ 44 = length-start k n unit kind fill bs ls dest in
    let runs : List (List ℕ) = unit_head begin k n 0 unit ∷ (kind ∷ fill ∷ length bs ∷ length ls ∷ []) ∷ fields 2 bs ∷ fields 8 ls ∷ bytes2 dest ∷ bytes2 0 ∷ [] in
    let q : puts at 0 runs l ≡ put at (start_of k n unit kind fill bs ls dest) l = puts-all at runs l (start_of k n unit kind fill bs ls dest) refl (omega arith) in
    rw (add-zero at, length_fields 2 bs, length_fields 8 ls) at q

-- the same, write by write
pub start-written : (l : List ℕ) (at k n unit kind fill : ℕ) (bs ls : List ℕ) (dest : ℕ) → at + 44 ≤ length l → (r1 r2 r3 r4 r5 r6 : List ℕ)
    → r1 ≡ put at (unit_head (kind_at 1) k n 0 unit) l → r2 ≡ put (at + 16) (kind ∷ fill ∷ length bs ∷ length ls ∷ []) r1 → r3 ≡ put (at + 20) (fields 2 bs) r2
    → r4 ≡ put (at + 24) (fields 8 ls) r3 → r5 ≡ put (at + 40) (bytes2 dest) r4 → r6 ≡ put (at + 42) (bytes2 0) r5
    → r6 ≡ put at (start_of k n unit kind fill bs ls dest) l
start-written l at k n unit kind fill bs ls dest h r1 r2 r3 r4 r5 r6 e1 e2 e3 e4 e5 e6 =
    rw (e6, e5, e4, e3, e2, e1) (start-puts l at k n unit kind fill bs ls dest h)

-- an LB is its start and the records that it carries
pub encode-begin : (n unit kind fill : ℕ) (bs ls : List ℕ) (dest : ℕ) (rs : List (List ℕ))
    → encode n (LB (begin_of unit kind fill bs ls dest rs)) ≡ start_of (length rs) n unit kind fill bs ls dest ++ joined rs
unfolding encode body previous kind_of size carried start_of unit_head header bytes2 bytes4 begin_of
encode-begin n unit kind fill bs ls dest rs =
    let a : List ℕ = fields 2 bs in
    let b : List ℕ = fields 8 ls in
    let c : List ℕ = bytes2 dest ++ bytes2 0 in
    let e : (a ++ (b ++ c)) ++ joined rs ≡ a ++ (b ++ (c ++ joined rs)) = append_assoc a (b ++ c) (joined rs) ∙ ap (λ (x : List ℕ). a ++ x) (append_assoc b c (joined rs)) in
    sym (unfold bytes2 in rw e)

-- an LB that carries none
pub encode-plain : (n unit kind fill : ℕ) (bs ls : List ℕ) (dest : ℕ) → start_of 0 n unit kind fill bs ls dest ≡ encode n (LB (begin_of unit kind fill bs ls dest []))
unfolding joined
encode-plain n unit kind fill bs ls dest = sym (encode-begin n unit kind fill bs ls dest [] ∙ append-nil _)

-- the LB of a put or delete: its start, which lists nothing, then its record
pub save-written! : (l : List ℕ) (at n unit kind : ℕ) (bs ls r m s : List ℕ) (k : ℕ) → bs ≡ [] → ls ≡ [] → length r ≡ 16 → at + 60 ≤ length l
    → m ≡ put at (start_of 1 n unit kind 0 bs ls 0) l → k ≡ length_of (kind_at 1) 0 → s ≡ put (at + k) r m → s ≡ put at (encode n (LB (save_of unit kind r))) l
unfolding save_of joined length_of kind_at kinds
save-written! l at n unit kind bs ls r m s k eb el h room e q p =
    let z : length (start_of 1 n unit kind 0 [] [] 0) ≡ 44 = length-start 1 n unit kind 0 [] [] 0 in
    let f : encode n (LB (begin_of unit kind 0 [] [] 0 (r ∷ []))) ≡ start_of 1 n unit kind 0 [] [] 0 ++ r =
    encode-begin n unit kind 0 [] [] 0 (r ∷ []) ∙ ap (λ (x : List ℕ). start_of 1 n unit kind 0 [] [] 0 ++ x) (append-nil r) in
    p ∙ rw (q, e, eb, el, f, ← z) (put_next at (start_of 1 n unit kind 0 [] [] 0) r l (omega arith))

-- ---- an LG

pub image-puts : (l : List ℕ) (at n p : ℕ) → at + 16 ≤ length l
    → put (at + 14) (bytes2 0) (put (at + 12) (bytes2 p) (put at (header (kind_at 6) (length_of (kind_at 6) 1) n (n - 1)) l)) ≡ put at (image_head n p) l
unfolding image_head header bytes2 bytes4 joined kind_at kinds
image-puts l at n p h =
    rw (← puts-all at (header image (length_of image 1) n (n - 1) ∷ bytes2 p ∷ bytes2 0 ∷ []) l (image_head n p) refl h, add-zero at)

-- an LG is its head and its image
pub encode-image : (n p : ℕ) (pg : List ℕ) → encode n (LG (image_of p pg)) ≡ image_head n p ++ pg
unfolding encode body previous kind_of size carried image_head header bytes2 bytes4
encode-image n p pg = refl

pub length-image_head : (n p : ℕ) → length (image_head n p) ≡ 16
unfolding image_head header bytes2 bytes4
length-image_head n p = refl

pub image-written : (l : List ℕ) (at n p : ℕ) (pg : List ℕ) → length pg ≡ 256 → at + 272 ≤ length l → (m : List ℕ) → m ≡ put at (image_head n p) l
    → put (at + 16) pg m ≡ put at (encode n (LG (image_of p pg))) l
image-written l at n p pg k h m e =
    let q : length (image_head n p) ≡ 16 = length-image_head n p in
    rw (e, encode-image n p pg, ← q) (put_next at (image_head n p) pg l (omega arith))
