-- Laws of a part of a list and of a run written over a list, for every offset and length, once; and of the loops, stores and loans of
-- a part by which code comes to them. Assumes nothing.
use Prim.Native.Nat.{ℕ, ◌+◌, ◌-◌, ◌≤◌, ◌<◌}
use native.Mathlib.Nat.{add_assoc, add-zero, add-sub_cancel_left}
use native.Mathlib.Decide.{dec_le}
use native.Mathlib.Numerals.{add-one}
use native.Mathlib.Omega.{arith}
use mathlib.Core.Path.{◌≡◌, refl, sym, ap, ◌∙◌, subst}
use mathlib.Core.Logic.{◌⊎◌, ⊎_elim}
use mathlib.Core.List.{List, [], ◌∷◌, ◌++◌, append_assoc, append-nil}
use lib.ListN.{length, take, drop, get_or, set, take-append-drop, length-set, length-append, length-take, length-drop, get_or-append}
use lib.Seq.{paste, paste-zero, paste-suc, take_all, sets, sets-eq, ext_get_or, drop-drop, length-take-le, get_or-append-add, get_or-take, get_or-drop}
use lib.Seq.{take-add, take-length, take-append-le, drop-append-le, take-append-add, drop-append-add, take_at, drop_at}
use borrow.Rule.Slice.PartMut.{put_mid}
use Rattle.field.specs.Bytes.{part, put}

-- one order or the other
pub split {ℓ} : {X : Type ℓ} (a b : ℕ) → (a < b → X) → (b ≤ a → X) → X
split a b f g = elim (dec_le b a) [ yes h ↦ g h | no h ↦ f (omega arith) ]

-- what stands behind p, at an offset that counts p's length
pub get_or_past : (p q : List ℕ) (n j : ℕ) → length p ≡ n → get_or (p ++ q) (n + j) 0 ≡ get_or q j 0
get_or_past p q n j e = subst (λ (k : ℕ). get_or (p ++ q) (k + j) 0 ≡ get_or q j 0) e (get_or-append-add p q j 0)

-- ---- a part

pub length_part : (o n : ℕ) (l : List ℕ) → o + n ≤ length l → length (part o n l) ≡ n
unfolding part
length_part o n l h = length-take-le n (drop o l) (simp length-drop (omega arith))

pub get_or-part : (o n : ℕ) (l : List ℕ) (j : ℕ) → j < n → get_or (part o n l) j 0 ≡ get_or l (o + j) 0
unfolding part
get_or-part o n l j h = get_or-take n (drop o l) j 0 h ∙ get_or-drop o l j 0

pub part-drop : (k o n : ℕ) (l : List ℕ) → part o n (drop k l) ≡ part (k + o) n l
unfolding part
part-drop k o n l = rw (drop-drop o k l)

pub part-part : (o n a m : ℕ) (l : List ℕ) → o + n ≤ m → a + m ≤ length l → part o n (part a m l) ≡ part (a + o) n l
part-part o n a m l h k =
    let lm : length (part a m l) ≡ m = length_part a m l k in
    let lo : length (part o n (part a m l)) ≡ n = length_part o n (part a m l) (omega arith) in
    ext_get_or 0 (part o n (part a m l)) (part (a + o) n l) (lo ∙ sym (length_part (a + o) n l (omega arith)))
    (λ j p. get_or-part o n (part a m l) j (omega arith)
    ∙ get_or-part a m l (o + j) (omega arith)
    ∙ ap (λ (x : ℕ). get_or l x 0) (sym (add_assoc a o j))
    ∙ sym (get_or-part (a + o) n l j (omega arith)))

-- a part is its front and its back
pub part-add : (o n m : ℕ) (l : List ℕ) → part o (n + m) l ≡ part o n l ++ part (o + n) m l
unfolding part
part-add o n m l = take-add n m (drop o l) ∙ rw (drop-drop n o l)

-- what follows an offset is a part and what follows that
pub drop-cut : (o n : ℕ) (l : List ℕ) → drop o l ≡ part o n l ++ drop (o + n) l
unfolding part
drop-cut o n l = sym (rw (← drop-drop n o l) (take-append-drop n (drop o l)))

-- a part of a ++ l within a, behind a, and a itself
pub part-within : (a l : List ℕ) (o n : ℕ) → o + n ≤ length a → part o n (a ++ l) ≡ part o n a
unfolding part
part-within a l o n h = rw (drop-append-le o a l (omega arith), take-append-le n (drop o a) l (simp length-drop (omega arith)))

pub part-past : (a l : List ℕ) (k o n : ℕ) → length a ≡ k → part (k + o) n (a ++ l) ≡ part o n l
unfolding part
part-past a l k o n e = rw (← e, drop-append-add a l o)

pub part-front : (a l : List ℕ) (n : ℕ) → length a ≡ n → part 0 n (a ++ l) ≡ a
unfolding part
part-front a l n e = take_at a l n e

pub drop_past : (a l : List ℕ) (k o : ℕ) → length a ≡ k → drop (k + o) (a ++ l) ≡ drop o l
drop_past a l k o e = rw (← e) (drop-append-add a l o)

-- ---- a write

pub length-put : (i : ℕ) (bs l : List ℕ) → i + length bs ≤ length l → length (put i bs l) ≡ length l
unfolding put
length-put i bs l h = simp (length-append, length-drop, length-take) (omega arith)

pub get_or-put-before : (i : ℕ) (bs l : List ℕ) (j : ℕ) → i ≤ length l → j < i → get_or (put i bs l) j 0 ≡ get_or l j 0
unfolding put
get_or-put-before i bs l j h k =
    get_or-append (take i l) (bs ++ drop (i + length bs) l) 0 j (rw (length-take-le i l h) k) ∙ get_or-take i l j 0 k

pub get_or-put-in : (i : ℕ) (bs l : List ℕ) (j : ℕ) → i ≤ length l → j < length bs → get_or (put i bs l) (i + j) 0 ≡ get_or bs j 0
unfolding put
get_or-put-in i bs l j h k =
    get_or_past (take i l) (bs ++ drop (i + length bs) l) i j (length-take-le i l h) ∙ get_or-append bs (drop (i + length bs) l) 0 j k

pub get_or-put-after : (i : ℕ) (bs l : List ℕ) (j : ℕ) → i ≤ length l → i + length bs ≤ j → get_or (put i bs l) j 0 ≡ get_or l j 0
unfolding put
get_or-put-after i bs l j h k =
    let m : ℕ = j - (i + length bs) in
    let e : i + (length bs + m) ≡ j = omega arith in
    let f : i + length bs + m ≡ i + (length bs + m) = omega arith in
    rw (← e)
    (get_or_past (take i l) (bs ++ drop (i + length bs) l) i (length bs + m) (length-take-le i l h)
    ∙ get_or-append-add bs (drop (i + length bs) l) m 0
    ∙ get_or-drop (i + length bs) l m 0
    ∙ ap (λ (x : ℕ). get_or l x 0) f)

-- a list that agrees with the write in its three stretches is the write
pub put_is : (i : ℕ) (bs l m : List ℕ) → i + length bs ≤ length l → length l ≡ length m
    → ((j : ℕ) → j < i → get_or l j 0 ≡ get_or m j 0)
    → ((j : ℕ) → j < length bs → get_or bs j 0 ≡ get_or m (i + j) 0)
    → ((j : ℕ) → i + length bs ≤ j → get_or l j 0 ≡ get_or m j 0)
    → put i bs l ≡ m
put_is i bs l m h e before within after =
    ext_get_or 0 (put i bs l) m (length-put i bs l h ∙ e)
    (λ j _. split j i
    (λ a. get_or-put-before i bs l j (omega arith) a ∙ before j a)
    (λ a. split j (i + length bs)
    (λ b. let d : ℕ = j - i in
    let q : i + d ≡ j = omega arith in
    rw (← q) (get_or-put-in i bs l d (omega arith) (omega arith) ∙ within d (omega arith)))
    (λ b. get_or-put-after i bs l j (omega arith) b ∙ after j b)))

-- a write next to a write is one write
pub put_next : (i : ℕ) (a b l : List ℕ) → i + length a + length b ≤ length l → put (i + length a) b (put i a l) ≡ put i (a ++ b) l
put_next i a b l h =
    let la : length (put i a l) ≡ length l = length-put i a l (omega arith) in
    let lab : length (a ++ b) ≡ length a + length b = length-append a b in
    put_is (i + length a) b (put i a l) (put i (a ++ b) l) (omega arith) (la ∙ sym (length-put i (a ++ b) l (omega arith)))
    (λ j p. split j i
    (λ q. get_or-put-before i a l j (omega arith) q ∙ sym (get_or-put-before i (a ++ b) l j (omega arith) q))
    (λ q. let d : ℕ = j - i in
    let e : i + d ≡ j = omega arith in
    rw (← e)
    (get_or-put-in i a l d (omega arith) (omega arith)
    ∙ sym (get_or-append a b 0 d (omega arith))
    ∙ sym (get_or-put-in i (a ++ b) l d (omega arith) (omega arith)))))
    (λ j p. sym
    (ap (λ (k : ℕ). get_or (put i (a ++ b) l) k 0) (add_assoc i (length a) j)
    ∙ get_or-put-in i (a ++ b) l (length a + j) (omega arith) (omega arith)
    ∙ get_or-append-add a b j 0))
    (λ j p. get_or-put-after i a l j (omega arith) (omega arith) ∙ sym (get_or-put-after i (a ++ b) l j (omega arith) (omega arith)))

-- a write within a part is a write of the part
pub put_in : (o n i : ℕ) (bs l : List ℕ) → i + length bs ≤ n → o + n ≤ length l → put (o + i) bs l ≡ put o (put i bs (part o n l)) l
put_in o n i bs l h k =
    let x : List ℕ = part o n l in
    let lp : length x ≡ n = length_part o n l k in
    let lq : length (put i bs x) ≡ n = length-put i bs x (omega arith) ∙ lp in
    sym
    (put_is o (put i bs x) l (put (o + i) bs l) (omega arith) (sym (length-put (o + i) bs l (omega arith)))
    (λ j p. sym (get_or-put-before (o + i) bs l j (omega arith) (omega arith)))
    (λ j p. split j i
    (λ q. get_or-put-before i bs x j (omega arith) q
    ∙ get_or-part o n l j (omega arith)
    ∙ sym (get_or-put-before (o + i) bs l (o + j) (omega arith) (omega arith)))
    (λ q. split j (i + length bs)
    (λ r. let d : ℕ = j - i in
    let e : i + d ≡ j = omega arith in
    rw (← e)
    (get_or-put-in i bs x d (omega arith) (omega arith)
    ∙ sym (get_or-put-in (o + i) bs l d (omega arith) (omega arith))
    ∙ ap (λ (y : ℕ). get_or (put (o + i) bs l) y 0) (add_assoc o i d)))
    (λ r. get_or-put-after i bs x j (omega arith) r
    ∙ get_or-part o n l j (omega arith)
    ∙ sym (get_or-put-after (o + i) bs l (o + j) (omega arith) (omega arith)))))
    (λ j p. sym (get_or-put-after (o + i) bs l j (omega arith) (omega arith))))

-- what was written is read, in part and whole
pub part-put-in : (o i n : ℕ) (bs l : List ℕ) → i + n ≤ length bs → o + length bs ≤ length l → part (o + i) n (put o bs l) ≡ part i n bs
part-put-in o i n bs l h k =
    let la : length (put o bs l) ≡ length l = length-put o bs l k in
    let lp : length (part (o + i) n (put o bs l)) ≡ n = length_part (o + i) n (put o bs l) (omega arith) in
    ext_get_or 0 (part (o + i) n (put o bs l)) (part i n bs) (lp ∙ sym (length_part i n bs h))
    (λ j p. get_or-part (o + i) n (put o bs l) j (omega arith)
    ∙ ap (λ (x : ℕ). get_or (put o bs l) x 0) (add_assoc o i j)
    ∙ get_or-put-in o bs l (i + j) (omega arith) (omega arith)
    ∙ sym (get_or-part i n bs j (omega arith)))

pub part-put-same : (o : ℕ) (bs l : List ℕ) → o + length bs ≤ length l → part o (length bs) (put o bs l) ≡ bs
part-put-same o bs l h =
    ap (λ (x : ℕ). part x (length bs) (put o bs l)) (sym (add-zero o))
    ∙ part-put-in o 0 (length bs) bs l (omega arith) h
    ∙ (unfold part in take-length bs)

-- a part beside the write is as it was
pub part-put-other : (o n i : ℕ) (bs l : List ℕ) → o + n ≤ length l → i + length bs ≤ length l → (o + n ≤ i) ⊎ (i + length bs ≤ o)
    → part o n (put i bs l) ≡ part o n l
part-put-other o n i bs l h k side =
    let la : length (put i bs l) ≡ length l = length-put i bs l k in
    let lp : length (part o n (put i bs l)) ≡ n = length_part o n (put i bs l) (omega arith) in
    ext_get_or 0 (part o n (put i bs l)) (part o n l) (lp ∙ sym (length_part o n l h))
    (λ j p. let q : j < n = omega arith in
    get_or-part o n (put i bs l) j q
    ∙ ⊎_elim
    (λ s. get_or-put-before i bs l (o + j) (omega arith) (omega arith))
    (λ s. get_or-put-after i bs l (o + j) (omega arith) (omega arith)) side
    ∙ sym (get_or-part o n l j q))

-- a part written back where it was
pub put-part : (o n : ℕ) (l : List ℕ) → o + n ≤ length l → put o (part o n l) l ≡ l
put-part o n l h =
    let lp : length (part o n l) ≡ n = length_part o n l h in
    put_is o (part o n l) l l (omega arith) refl (λ j p. refl) (λ j p. get_or-part o n l j (omega arith)) (λ j p. refl)

-- a second write in the same place
pub put-put : (o : ℕ) (a b l : List ℕ) → length a ≡ length b → o + length a ≤ length l → put o b (put o a l) ≡ put o b l
put-put o a b l e h =
    let la : length (put o a l) ≡ length l = length-put o a l h in
    put_is o b (put o a l) (put o b l) (omega arith) (la ∙ sym (length-put o b l (omega arith)))
    (λ j p. get_or-put-before o a l j (omega arith) p ∙ sym (get_or-put-before o b l j (omega arith) p))
    (λ j p. sym (get_or-put-in o b l j (omega arith) p))
    (λ j p. get_or-put-after o a l j (omega arith) (omega arith) ∙ sym (get_or-put-after o b l j (omega arith) p))

-- writes at offsets of the whole, within one part that was written: each is a write of that part
pub put-in-put : (o i : ℕ) (bs x l : List ℕ) → i + length bs ≤ length x → o + length x ≤ length l
    → put (o + i) bs (put o x l) ≡ put o (put i bs x) l
put-in-put o i bs x l h k =
    let lx : length (put o x l) ≡ length l = length-put o x l k in
    put_in o (length x) i bs (put o x l) h (omega arith)
    ∙ rw (part-put-same o x l k) (put-put o x (put i bs x) l (sym (length-put i bs x h)) k)

-- a write over the front, and one behind a front
pub put_front : (a b l : List ℕ) → length a ≡ length b → put 0 b (a ++ l) ≡ b ++ l
unfolding put
put_front a b l e = ap (λ (x : List ℕ). b ++ x) (drop_at a l (0 + length b) (omega arith))

-- a write over the whole
pub put_whole : (b l : List ℕ) → length b ≡ length l → put 0 b l ≡ b
put_whole b l e = ap (put 0 b) (sym (append-nil l)) ∙ put_front l b [] (sym e) ∙ append-nil b

pub put-past : (a bs l : List ℕ) (k i : ℕ) → length a ≡ k → put (k + i) bs (a ++ l) ≡ a ++ put i bs l
unfolding put
put-past a bs l k i e =
    let f : k + i ≡ length a + i = omega arith in
    let g : length a + i + length bs ≡ length a + (i + length bs) = omega arith in
    rw (f, g, take-append-add a l i, drop-append-add a l (i + length bs)) (append_assoc a (take i l) (bs ++ drop (i + length bs) l))

-- ---- stores one after the other, as straight-line code leaves them

pub sets-put : (bs l : List ℕ) (i : ℕ) → i + length bs ≤ length l → sets l i bs ≡ put i bs l
unfolding put
sets-put bs l i h = sets-eq bs l i h ∙ append_assoc (take i l) bs (drop (i + length bs) l)

pub set-put : (l : List ℕ) (i v : ℕ) → i < length l → set l i v ≡ put i (v ∷ []) l
set-put l i v h = sets-put (v ∷ []) l i (rw add-one h)

-- ---- a loop that copies rs over d from the offset at, for `search`: its start, a turn, its end

pub copy-none! : (d : List ℕ) (at : ℕ) (rs : List ℕ) → d ≡ paste d at rs 0
copy-none! d at rs = paste-zero d at rs

pub copy-more! : (d : List ℕ) (at : ℕ) (rs : List ℕ) (i : ℕ) (s : List ℕ) → s ≡ paste d at rs i → at + length rs ≤ length d → i < length rs
    → set s (at + i) (get_or rs i 0) ≡ paste d at rs (i + 1)
copy-more! d at rs i s e h k = rw (e, add-one) (paste-suc d at rs i 0 (omega arith) k)

pub copy-all! : (d : List ℕ) (at : ℕ) (rs : List ℕ) (i : ℕ) (s : List ℕ) → s ≡ paste d at rs i → i ≤ length rs → length rs ≤ i
    → s ≡ put at rs d
unfolding put
copy-all! d at rs i s e h k =
    let q : i ≡ length rs = omega arith in
    rw (e, q, take_all (length rs) rs (omega arith)) (append_assoc (take at d) rs (drop (at + length rs) d))

-- the same where the bytes copied are the list's own, from an offset no lower: no byte is read after it was written
pub shift-more! : (d : List ℕ) (at from n : ℕ) (i : ℕ) (s : List ℕ) → s ≡ paste d at (part from n d) i → at ≤ from → from + n ≤ length d
    → i < n
    → set s (at + i) (get_or s (from + i) 0) ≡ paste d at (part from n d) (i + 1)
unfolding put
shift-more! d at from n i s e low h k =
    let rs : List ℕ = part from n d in
    let lr : length rs ≡ n = length_part from n d h in
    let li : length (take i rs) ≡ i = length-take-le i rs (omega arith) in
    let q : s ≡ put at (take i rs) d = e ∙ rw li (append_assoc (take at d) (take i rs) (drop (at + i) d)) in
    let v : get_or s (from + i) 0 ≡ get_or rs i 0 =
    ap (λ (x : List ℕ). get_or x (from + i) 0) q
    ∙ get_or-put-after at (take i rs) d (from + i) (omega arith) (omega arith)
    ∙ sym (get_or-part from n d i k) in
    rw v (copy-more! d at rs i s e (omega arith) (omega arith))

pub shift-all! : (d : List ℕ) (at from n : ℕ) (i : ℕ) (s : List ℕ) → s ≡ paste d at (part from n d) i → from + n ≤ length d → i ≤ n → n ≤ i
    → s ≡ put at (part from n d) d
shift-all! d at from n i s e h k m =
    let lr : length (part from n d) ≡ n = length_part from n d h in
    copy-all! d at (part from n d) i s e (omega arith) (omega arith)

pub length-set-of! : (d : List ℕ) (i v : ℕ) (s : List ℕ) → length s ≡ length d → length (set s i v) ≡ length d
length-set-of! d i v s e = length-set s i v ∙ e

-- ---- a part that the code lends, `&s[o..o + n]`, and the whole after the part came back as x

pub lent-part : (o n : ℕ) (l : List ℕ) → take (o + n - o) (drop o l) ≡ part o n l
unfolding part
lent-part o n l = rw (add-sub_cancel_left o n)

-- a part that is lent and copied over the whole of l
pub copied-part : (o n : ℕ) (s l : List ℕ) → length l ≡ n → o + n ≤ length s → put 0 (take (o + n - o) (drop o s)) l ≡ part o n s
copied-part o n s l e h =
    rw (lent-part o n s) (put_whole (part o n s) l (length_part o n s h ∙ sym e))

pub back-put : (o n : ℕ) (l x : List ℕ) → length x ≡ n → put_mid o (o + n - o) l x ≡ put o x l
unfolding put
back-put o n l x e = rw (add-sub_cancel_left o n, drop-drop n o l, e)
