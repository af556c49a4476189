-- The ways through the test of one record, which writes the record that must stand there and compares. Assumes nothing.
use Prim.Native.Nat.{ℕ, ◌+◌, ◌-◌, ◌≤◌, ◌<◌}
use mathlib.Core.Path.{◌≡◌, refl, sym, ap, ◌∙◌}
use mathlib.Core.Bool.{Bool, true, false}
use mathlib.Core.List.{List, [], ◌∷◌}
use lib.ListN.{length, take, drop, length-drop}
use lib.Seq.{take_at}
use lib.Dec.{leb}
use borrow.Author.Tests.{leb-true, le-leb, lt-leb}
use Rattle.field.specs.Test.{both, all}
use Rattle.field.specs.Bytes.{put, starts, le4, bytes2, bytes4, most4}
use Rattle.field.proofs.Test.{all_head, all_tail, both_end, both_true, both_false}
use Rattle.field.proofs.Number.{le4-drop}
use Rattle.field.proofs.Same.{starts-eq}
use Rattle.page.specs.Each.{Each}
use Rattle.logs.specs.Record.{Rec, LI, LM, LE, length_of, kind_of, carried, size, header, encode}
use Rattle.logs.specs.Write.{paged, in_bytes}
use Rattle.logs.specs.Table.{kinds, kind_at}
use Rattle.logs.specs.Stand.{stands, stands_in, stands_modify}
use Rattle.logs.proofs.Record.{Sized, length-encode, number_read}
use Rattle.logs.proofs.Puts.{encode-in}

-- bytes written at the front of a buffer are its front
pub put-front-is : (bs z : List ℕ) (n : ℕ) → length bs ≡ n → take n (put 0 bs z) ≡ bs
unfolding put
put-front-is bs z n e = take_at bs (drop (0 + length bs) z) n e

-- a test that fails behind another
pub both-none : (a b : Bool) → b ≡ false → both a b ≡ false
unfolding both
both-none true b e = e
both-none false b e = refl

-- ---- the three tests of e, long bytes, with the number n at the offset at

unfoldable pub here : (n long : ℕ) (e l : List ℕ) → Bool
here n long e l = all (leb n most4 ∷ leb long (length l) ∷ starts e l ∷ [])

here-short : (n long : ℕ) (e l : List ℕ) (at : ℕ) → length l - at < long → false ≡ here n long e (drop at l)
unfolding here all
here-short n long e l at h =
    sym (both-none (leb n most4) _ (both_false (leb long (length (drop at l))) _ (rw (length-drop at l) (lt-leb long (length l - at) h))))

here-rest : (n long : ℕ) (e l : List ℕ) (at : ℕ) → length e ≡ long → n ≤ most4 → long ≤ length l - at
    → (z : Bool) (b c : List ℕ) → z ≡ starts (take long b) (drop at l) → b ≡ put 0 e c → z ≡ here n long e (drop at l)
unfolding here all
here-rest n long e l at m k j z b c p q =
    p ∙ rw (q, put-front-is e c long m)
    (sym (both_true _ _ (le-leb n most4 k) ∙ both_true (leb long (length (drop at l))) _ (rw (length-drop at l) (le-leb long (length l - at) j)) ∙ both_end (starts e (drop at l))))

module _ (n : ℕ) (r : Rec) (l : List ℕ) (at long : ℕ) (s : long ≡ size r) where
  pub stand-short : length l - at < long → false ≡ stands n r (drop at l)
  unfolding stands here
  stand-short h = rw (← s) (here-short n long (encode n r) l at h)

  pub stand-rest! : Sized r → n ≤ most4 → long ≤ length l - at
      → (z : Bool) (b c : List ℕ) → z ≡ starts (take long b) (drop at l) → b ≡ put 0 (encode n r) c → z ≡ stands n r (drop at l)
  unfolding stands here
  stand-rest! d k j z b c p q = rw (← s) (here-rest n long (encode n r) l at (length-encode n r d ∙ sym s) k j z b c p q)

-- the bytes of a record that stands there have its number
pub stands-le4 : (n : ℕ) (r : Rec) (l : List ℕ) → stands n r l ≡ true → le4 l 4 ≡ n
unfolding stands
stands-le4 n r l e =
    let k : n ≤ most4 = leb-true n most4 (all_head _ _ e) in
    let q = starts-eq (encode n r) l (all_head _ _ (all_tail _ _ (all_tail _ _ e))) in
    ap (λ (x : List ℕ). le4 x 4) q ∙ number_read n r _ k

-- ---- LE, LM and LI

pub end-long : (unit : ℕ) → length_of (kind_at 5) 0 ≡ size (LE unit [])
unfolding size carried kind_of kind_at kinds
end-long unit = refl

pub modify-long : (base old new key : ℕ) → length_of (kind_at 4) 0 ≡ size (LM base old new key)
unfolding size carried kind_of kind_at kinds
modify-long base old new key = refl

module _ (n base old new : ℕ) (l : List ℕ) (at long : ℕ) (s : long ≡ length_of (kind_at 4) 0) where
  pub modify-short : length l - at < long → false ≡ stands_modify n base old new (drop at l)
  unfolding stands_modify
  modify-short h = stand-short n _ l at long (s ∙ modify-long base old new (le4 (drop at l) 20)) h

  pub modify-rest! : n ≤ most4 → long ≤ length l - at → (z : Bool) (b c : List ℕ) (key : ℕ) → z ≡ starts (take long b) (drop at l)
      → b ≡ put 0 (encode n (LM base old new key)) c → key ≡ le4 l (at + 20) → z ≡ stands_modify n base old new (drop at l)
  unfolding stands_modify carried
  modify-rest! k j z b c key p q e =
      let f : key ≡ le4 (drop at l) 20 = e ∙ sym (le4-drop at 20 l) in
      stand-rest! n _ l at long (s ∙ modify-long base old new (le4 (drop at l) 20)) Each.nil k j z b c p (rw f at q)

module _ (n org dest back rows : ℕ) (l : List ℕ) (at long : ℕ) (s : long ≡ length_of (kind_at 3) 0) where
  pub in-short : length l - at < long → false ≡ stands_in n org dest back rows (drop at l)
  unfolding stands_in here kind_at kinds
  in-short h = rw (← s) (here-short n long (in_bytes n org dest back rows) l at h)

  pub in-rest! : n ≤ most4 → long ≤ length l - at
      → (z : Bool) (b c : List ℕ) → z ≡ starts (take long b) (drop at l) → b ≡ put 0 (in_bytes n org dest back rows) c → z ≡ stands_in n org dest back rows (drop at l)
  unfolding stands_in here kind_at kinds
  in-rest! k j z b c p q =
      let w : length (in_bytes n org dest back rows) ≡ length_of (kind_at 3) 0 = unfold in_bytes paged header bytes2 bytes4 kind_at kinds length_of in refl in
      let m : length (in_bytes n org dest back rows) ≡ long = w ∙ sym s in
      rw (← s) (here-rest n long (in_bytes n org dest back rows) l at m k j z b c p q)

-- an LI that does its step stands where its count does
pub stands-in : (n org dest back : ℕ) (rs : List (List ℕ)) (l : List ℕ) → stands n (LI org dest back rs) l ≡ stands_in n org dest back (length rs) l
unfolding stands stands_in size carried kind_of
stands-in n org dest back rs l = rw (encode-in n org dest back rs)
