-- What the writes of a page change leave: a header written anew, and rows appended, written over, cut out or cleared in the body, are the
-- page made of the rows. Each law over the row size. Assumes nothing.
use Prim.Native.Nat.{ℕ, zero, suc, ◌+◌, ◌-◌, ◌*◌, ◌≤◌, ◌<◌}
use native.Mathlib.Nat.{add-zero, zero-add, mul-zero, mul-suc, mul-le-mul_left, not-suc-le-zero}
use native.Mathlib.Omega.{arith}
use mathlib.Core.Path.{◌≡◌, refl, sym, ap, ap₂, ◌∙◌}
use mathlib.Core.List.{List, [], ◌∷◌, ◌++◌, append_assoc, append-nil}
use lib.ListN.{length, take, drop, get_or, set, length-append, length-take, length-drop, length-set, take-append-drop, drop_of_length-le}
use lib.Seq.{take-suc, drop-cons, drop-drop}
use Rattle.field.specs.Bytes.{part, put, zeroes, Bytes, le2, le4, bytes2, bytes4}
use Rattle.field.proofs.Part.{length_part, length-put, drop-cut, part-past, part-front, put_next, put-past, put_front, put_in}
use Rattle.field.proofs.Number.{length-bytes2, length-bytes4, bytes2-le2, bytes4-le4}
use Rattle.field.proofs.Zero.{length-zeroes, drop-zeroes, zeroes-append}
use Rattle.page.specs.Page.{joined, letter, count, number, spare, rows, made}
use Rattle.page.specs.Each.{Each, nil, cons, Long}
use Rattle.page.proofs.Rows.{each_at, joined-rows_of, joined-append, length-joined, rows_of-joined, get_or-rows_of}

-- a page from its letter, count and number on
unfoldable pub topped : (c v n : ℕ) → List ℕ → List ℕ
topped c v n l = 112 ∷ c ∷ (bytes2 v ++ (bytes4 n ++ l))

-- the body of a page with these rows
unfoldable pub body : List (List ℕ) → List ℕ
body rs = joined rs ++ zeroes (240 - length (joined rs))

pub made-topped : (c n : ℕ) (sp : List ℕ) (rs : List (List ℕ)) → topped c (length rs) n (sp ++ body rs) ≡ made c n sp rs
unfolding topped body made
made-topped c n sp rs = refl

-- ---- a page taken apart

-- a page of bytes is its header, spare bytes and body
pub topped-is : (pg : List ℕ) → length pg ≡ 256 → get_or pg 0 0 ≡ 112 → Bytes pg
    → pg ≡ topped (letter pg) (count pg) (number pg) (spare pg ++ drop 16 pg)
unfolding topped letter count number spare
topped-is pg long p b =
    let t : drop 2 pg ≡ bytes2 (le2 pg 2) ++ (bytes4 (le4 pg 4) ++ (part 8 8 pg ++ drop 16 pg)) =
    drop-cut 2 2 pg
    ∙ ap₂ (λ (x y : List ℕ). x ++ y) (sym (bytes2-le2 pg 2 b (omega arith)))
    (drop-cut 4 4 pg ∙ ap₂ (λ (x y : List ℕ). x ++ y) (sym (bytes4-le4 pg 4 b (omega arith))) (drop-cut 8 8 pg)) in
    drop-cons pg 0 0 (omega arith)
    ∙ ap₂ (λ (x : ℕ) (y : List ℕ). x ∷ y) p (drop-cons pg 1 0 (omega arith) ∙ ap (λ (x : List ℕ). get_or pg 1 0 ∷ x) t)

-- a body with zeros behind its rows of sz bytes is made of them
pub body_of : (sz : ℕ) (pg : List ℕ) → length pg ≡ 256 → drop (16 + sz * count pg) pg ≡ zeroes (240 - sz * count pg)
    → drop 16 pg ≡ body (rows sz pg)
unfolding body rows
body_of sz pg long z =
    let n : ℕ = sz * count pg in
    let l : List ℕ = take n (drop 16 pg) in
    let q : 240 - length l ≡ 240 - n = rw (length-take n (drop 16 pg), length-drop 16 pg, long) (omega arith) in
    sym (take-append-drop n (drop 16 pg)) ∙ rw (drop-drop n 16 pg, z, joined-rows_of sz (count pg) (drop 16 pg), q)

-- ---- a run written in the body, and one read from it

module _ (c v n : ℕ) where
  top : List ℕ
  top = 112 ∷ c ∷ (bytes2 v ++ bytes4 n)

  pub topped-put : (o : ℕ) (sp bs l : List ℕ) → length sp ≡ 8 → put (16 + o) bs (topped c v n (sp ++ l)) ≡ topped c v n (sp ++ put o bs l)
  unfolding topped bytes2 bytes4 top
  topped-put o sp bs l eight =
      let e : 16 + o ≡ 8 + (8 + o) = omega arith in
      rw e (put-past top bs (sp ++ l) 8 (8 + o) refl ∙ ap (λ (x : List ℕ). top ++ x) (put-past sp bs l 8 o eight))

  pub topped-part : (o m : ℕ) (sp l : List ℕ) → length sp ≡ 8 → part (16 + o) m (topped c v n (sp ++ l)) ≡ part o m l
  unfolding topped bytes2 bytes4 top
  topped-part o m sp l eight =
      let e : 16 + o ≡ 8 + (8 + o) = omega arith in
      rw e (part-past top (sp ++ l) 8 (8 + o) m refl ∙ part-past sp l 8 o m eight)

  pub topped-count : (u : ℕ) (l : List ℕ) → put 2 (bytes2 u) (topped c v n l) ≡ topped c u n l
  unfolding put topped bytes2 bytes4
  topped-count u l = refl

-- ---- the header

put-top : (c v n : ℕ) (pg : List ℕ) → take 1 pg ≡ 112 ∷ [] → put 1 (((c ∷ []) ++ bytes2 v) ++ bytes4 n) pg ≡ topped c v n (drop 8 pg)
unfolding put topped bytes2 bytes4
put-top c v n pg t = rw t

put-bytes4 : (c v n : ℕ) (pg : List ℕ) → length pg ≡ 256
    → put 4 (bytes4 n) (put 1 ((c ∷ []) ++ bytes2 v) pg) ≡ put 1 (((c ∷ []) ++ bytes2 v) ++ bytes4 n) pg
unfolding bytes2
put-bytes4 c v n pg long = put_next 1 ((c ∷ []) ++ bytes2 v) (bytes4 n) pg (omega (arith, length-bytes4 n))

module _ (c v n : ℕ) (pg : List ℕ) (long : length pg ≡ 256) (mark : get_or pg 0 0 ≡ 112) where
  pub headed : put 4 (bytes4 n) (put 2 (bytes2 v) (put 1 (c ∷ []) pg)) ≡ topped c v n (spare pg ++ drop 16 pg)
  unfolding spare
  headed =
      let e : put 2 (bytes2 v) (put 1 (c ∷ []) pg) ≡ put 1 ((c ∷ []) ++ bytes2 v) pg =
      put_next 1 (c ∷ []) (bytes2 v) pg (omega (arith, length-bytes2 v)) in
      let t : take 1 pg ≡ 112 ∷ [] = take-suc pg 0 0 (omega arith) ∙ ap (λ (x : ℕ). x ∷ []) mark in
      rw e (put-bytes4 c v n pg long ∙ put-top c v n pg t ∙ ap (topped c v n) (drop-cut 8 8 pg))

  eight : length (spare pg) ≡ 8
  unfolding spare
  eight = length_part 8 8 pg (omega arith)

  -- and a run written in the body
  pub written : (o : ℕ) (bs : List ℕ) → put (16 + o) bs (put 4 (bytes4 n) (put 2 (bytes2 v) (put 1 (c ∷ []) pg)))
      ≡ topped c v n (spare pg ++ put o bs (drop 16 pg))
  written o bs = rw headed (topped-put c v n o (spare pg) bs (drop 16 pg) eight)

  -- and a run read from the body
  pub read : (o m : ℕ) → part (16 + o) m (put 4 (bytes4 n) (put 2 (bytes2 v) (put 1 (c ∷ []) pg))) ≡ part o m (drop 16 pg)
  read o m = rw headed (topped-part c v n o m (spare pg) (drop 16 pg) eight)

-- ---- the body

pub body-empty : (rs : List (List ℕ)) → length (joined rs) ≤ 240 → put 0 (zeroes 240) (body rs) ≡ body []
unfolding put body joined
body-empty rs h =
    let z : ℕ = 240 - length (joined rs) in
    let short : length (joined rs ++ zeroes z) ≤ 240 = rw (length-append (joined rs) (zeroes z), length-zeroes z) (omega arith) in
    let none : drop 240 (joined rs ++ zeroes z) ≡ [] = drop_of_length-le (joined rs ++ zeroes z) short in
    rw (length-zeroes 240, none) (append-nil (zeroes 240))

put-zeroes : (bs : List ℕ) (z : ℕ) → put 0 bs (zeroes z) ≡ bs ++ zeroes (z - length bs)
unfolding put
put-zeroes bs z = rw (zero-add (length bs), drop-zeroes (length bs) z)

-- rows written behind the rows
pub body-append : (a b : List (List ℕ)) (o : ℕ) → length (joined a) ≡ o → put o (joined b) (body a) ≡ body (a ++ b)
unfolding body
body-append a b o e =
    let z : ℕ = 240 - length (joined a) in
    let q : z - length (joined b) ≡ 240 - length (joined a ++ joined b) = rw (length-append (joined a) (joined b)) (omega arith) in
    rw (joined-append a b)
    (ap (λ (i : ℕ). put i (joined b) (joined a ++ zeroes z)) (sym (add-zero o))
    ∙ put-past (joined a) (joined b) (zeroes z) o 0 e
    ∙ rw (put-zeroes (joined b) z, q) (sym (append_assoc (joined a) (joined b) (zeroes (240 - length (joined a ++ joined b))))))

-- a row written over a row
pub put-row : (sz i : ℕ) (r : List ℕ) (rs : List (List ℕ)) (l : List ℕ) → Each (Long sz) rs → i < length rs → length r ≡ sz
    → put (sz * i) r (joined rs ++ l) ≡ joined (set rs i r) ++ l
unfolding joined
put-row sz i r [] l nil h e = absurd (not-suc-le-zero h)
put-row sz zero r (x ∷ rs) l (cons k p) h e =
    rw (mul-zero sz, append_assoc x (joined rs) l, append_assoc r (joined rs) l) (put_front x r (joined rs ++ l) (omega arith))
put-row sz (suc i) r (x ∷ rs) l (cons k p) h e =
    let q : sz * suc i ≡ sz + sz * i = omega (arith, mul-suc sz i) in
    rw (q, append_assoc x (joined rs) l, append_assoc x (joined (set rs i r)) l, put-past x r (joined rs ++ l) sz (sz * i) k)
    (ap (λ (y : List ℕ). x ++ y) (put-row sz i r rs l p (omega arith) e))

pub each_set : {P : List ℕ → Type 0} {rs : List (List ℕ)} (i : ℕ) (r : List ℕ) → Each P rs → P r → Each P (set rs i r)
each_set i r nil h = nil
each_set zero r (cons k p) h = cons h p
each_set (suc i) r (cons k p) h = cons k (each_set i r p h)

-- a run written within a row
pub body-set : (sz i o : ℕ) (bs : List ℕ) (rs : List (List ℕ)) → Each (Long sz) rs → i < length rs → o + length bs ≤ sz
    → sz * length rs ≤ 240
    → put (sz * i + o) bs (body rs) ≡ body (set rs i (put o bs (get_or rs i [])))
unfolding body
body-set sz i o bs rs p h k room =
    let x : List ℕ = get_or rs i [] in
    let r : List ℕ = put o bs x in
    let lx : length x ≡ sz = each_at i p h in
    let lr : length r ≡ sz = length-put o bs x (omega arith) ∙ lx in
    let lj : length (joined rs) ≡ sz * length rs = length-joined sz rs p in
    let ls : length (joined (set rs i r)) ≡ length (joined rs) =
    length-joined sz (set rs i r) (each_set i r p lr) ∙ ap (λ (y : ℕ). sz * y) (length-set rs i r) ∙ sym lj in
    let z : ℕ = 240 - length (joined rs) in
    let e : part (sz * i) sz (joined rs ++ zeroes z) ≡ x =
    sym (ap (λ (y : List (List ℕ)). get_or y i []) (sym (rows_of-joined sz rs (zeroes z) p)) ∙ get_or-rows_of sz (length rs) i (joined rs ++ zeroes z) h) in
    let fits : sz * i + sz ≤ length (joined rs ++ zeroes z) =
    rw (length-append (joined rs) (zeroes z), length-zeroes z) (omega (arith, mul-suc sz i, mul-le-mul_left sz h)) in
    put_in (sz * i) sz o bs (joined rs ++ zeroes z) k fits
    ∙ ap (λ (y : List ℕ). put (sz * i) (put o bs y) (joined rs ++ zeroes z)) e
    ∙ put-row sz i r rs (zeroes z) p h lr
    ∙ ap (λ (y : ℕ). joined (set rs i r) ++ zeroes (240 - y)) (sym ls)

body-around : (sz o m : ℕ) (r : List ℕ) (a b : List (List ℕ)) → length (joined a) ≡ o → length r ≡ sz → length (joined b) ≡ m
    → body (a ++ (r ∷ b)) ≡ joined a ++ ((r ++ joined b) ++ zeroes (240 - (o + (sz + m))))
unfolding body joined
body-around sz o m r a b la lr lb =
    rw (joined-append a (r ∷ b), length-append (joined a) (r ++ joined b), length-append r (joined b), la, lr, lb)
    (append_assoc (joined a) (r ++ joined b) (zeroes (240 - (o + (sz + m)))))

body-both : (sz o m z : ℕ) (a b : List (List ℕ)) → length (joined a) ≡ o → length (joined b) ≡ m → sz + z ≡ 240 - (o + m)
    → joined a ++ ((joined b ++ zeroes sz) ++ zeroes z) ≡ body (a ++ b)
unfolding body
body-both sz o m z a b la lb q =
    rw (joined-append a b, length-append (joined a) (joined b), la, lb, append_assoc (joined b) (zeroes sz) (zeroes z), zeroes-append sz z, q)
    (sym (append_assoc (joined a) (joined b) (zeroes (240 - (o + m)))))

-- the rows behind a row moved over it, and zeros after them
pub body-cut : (sz o m : ℕ) (r : List ℕ) (a b : List (List ℕ)) → length (joined a) ≡ o → length r ≡ sz → length (joined b) ≡ m
    → o + sz + m ≤ 240
    → put o (part (o + sz) m (body (a ++ (r ∷ b))) ++ zeroes sz) (body (a ++ (r ∷ b))) ≡ body (a ++ b)
body-cut sz o m r a b la lr lb room =
    let ja : List ℕ = joined a in
    let jb : List ℕ = joined b in
    let z : ℕ = 240 - (o + (sz + m)) in
    let whole : body (a ++ (r ∷ b)) ≡ ja ++ ((r ++ jb) ++ zeroes z) = body-around sz o m r a b la lr lb in
    let e : o + sz ≡ o + (sz + 0) = omega arith in
    let moved : part (o + sz) m (ja ++ ((r ++ jb) ++ zeroes z)) ≡ jb =
    rw (e, append_assoc r jb (zeroes z), part-past ja (r ++ (jb ++ zeroes z)) o (sz + 0) m la, part-past r (jb ++ zeroes z) sz 0 m lr)
    (part-front jb (zeroes z) m lb) in
    let q : sz + z ≡ 240 - (o + m) = omega arith in
    let size : length (r ++ jb) ≡ length (jb ++ zeroes sz) =
    rw (length-append r jb, length-append jb (zeroes sz), length-zeroes sz) (omega arith) in
    let over : put o (jb ++ zeroes sz) (ja ++ ((r ++ jb) ++ zeroes z)) ≡ ja ++ ((jb ++ zeroes sz) ++ zeroes z) =
    ap (λ (i : ℕ). put i (jb ++ zeroes sz) (ja ++ ((r ++ jb) ++ zeroes z))) (sym (add-zero o))
    ∙ put-past ja (jb ++ zeroes sz) ((r ++ jb) ++ zeroes z) o 0 la
    ∙ ap (λ (x : List ℕ). ja ++ x) (put_front (r ++ jb) (jb ++ zeroes sz) (zeroes z) size) in
    let end : ja ++ ((jb ++ zeroes sz) ++ zeroes z) ≡ body (a ++ b) = body-both sz o m z a b la lb q in
    rw (whole, moved) (over ∙ end)
