-- One page: what a record repeated makes of it, and logs that leave it as it is. Assumes nothing.
use Prim.Native.Nat.{ℕ, ◌+◌, ◌≤◌, ◌<◌}
use mathlib.Core.Path.{◌≡◌, refl, sym, ◌∙◌}
use mathlib.Core.Bool.{Bool, true, false, cond}
use mathlib.Core.List.{List, [], ◌∷◌}
use mathlib.Core.Logic.{◌⊎◌, inl, inr, ⊎_elim}
use mathlib.Core.Option.{some, some-injective}
use native.Mathlib.Omega.{arith}
use lib.Dec.{leb}
use lib.ListN.{length}
use borrow.Author.Tests.{le-leb, lt-leb}
use Rattle.replay.specs.Store.{Format, again, Meaning}
use Rattle.replay.specs.Laws.{Each, none, also, Stands, Touches, Passes, PageLaws}
use Rattle.replay.proofs.Each.{each_map}
use Rattle.replay.proofs.Runs.{Runs, done, then}

module _ (F : Format) (M : Meaning F) where
  open F use {Page, Rec, many, stamp, change}
  open M use {Form}

  -- the record numbered n, repeated at page p, makes z of x, and z is in form
  pub record AgainAt (p n : ℕ) (r : Rec) (x z : Page) : Type 0 where
    pub made : again F n r p x ≡ some z
    pub form : Form p z

  -- a page that bears the number or a later one stays
  stays_at : (p n : ℕ) (r : Rec) (x : Page) → Form p x → n ≤ stamp x → AgainAt p n r x x
  unfolding again
  stays_at p n r x f k = record { made = rw (le-leb, k); form = f }

  -- .. one that the record does not concern stays too
  passes_at : (p n : ℕ) (r : Rec) (x : Page) → Form p x → Passes F M p n r → AgainAt p n r x x
  unfolding again
  passes_at p n r x f k = record { made = either (leb n (stamp x)); form = f }
    where
      either : (b : Bool) → cond b (some x) (change n r p x) ≡ some x
      either true = refl
      either false = k x f

  -- ---- logs that leave the page as it is

  -- of the records, the first numbered n, those with a number above k do not concern page p
  abbrev pub Quiet : (p k : ℕ) → (n : ℕ) → List Rec → Type 0
  Quiet p k = Each (λ n r. (n ≤ k) ⊎ Passes F M p n r)

  -- records none of which has a higher number
  pub quiet-top : (p k n : ℕ) (rs : List Rec) → n + length rs ≤ k + 1 → Quiet p k n rs
  quiet-top p k n [] h = none
  quiet-top p k n (r ∷ rs) h = also {n = n} (inl (omega arith)) (quiet-top p k (n + 1) rs (omega arith))

  -- where all have, none concerns the page
  pub quiet-passes : (p k n : ℕ) (rs : List Rec) → k < n → Quiet p k n rs → Each (Passes F M p) n rs
  quiet-passes p k n rs h q =
      each_map (λ m r i. ⊎_elim (λ (a : m ≤ k). absurd (omega arith)) (λ (a : Passes F M p m r). a)) q

  -- repeated over such a page, the log changes nothing
  pub quiet-run : (p n : ℕ) (rs : List Rec) (x : Page) → Form p x → Quiet p (stamp x) n rs → Runs (AgainAt p) n rs x x
  quiet-run p n [] x f q = done
  quiet-run p n (r ∷ rs) x f (also (inl a) q) = then (stays_at p n r x f a) (quiet-run p (n + 1) rs x f q)
  quiet-run p n (r ∷ rs) x f (also (inr a) q) = then (passes_at p n r x f a) (quiet-run p (n + 1) rs x f q)

  -- ---- one record more, on a page with a lower number

  module _ (P : PageLaws F M) (p n : ℕ) (r : Rec) (y z : Page) (s : Stands F M n r) (i : p < many) (f : Form p y) (k : stamp y < n)
      (c : change n r p y ≡ some z) where
    -- the page stays in form
    pub changed-form : Form p z
    changed-form =
        ⊎_elim
        (λ (t : Touches F M p n r). t.formed y z f k c)
        (λ (t : Passes F M p n r). let e : y ≡ z = some-injective y z (sym (t y f) ∙ c) in rw e at f)
        (P.concerns n r p s i)

    -- repeated, the record does what it did
    pub changed-again : AgainAt p n r y z
    unfolding again
    changed-again = record { made = rw (lt-leb, k) c; form = changed-form }
