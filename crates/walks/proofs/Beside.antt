-- The parameters beside a call's first, however many: each is handed on to the callee as it stands, or is a `&mut [u8]`, which the code lends
-- again. The facts are by induction on the list of them, so that a call's proof only lists its own.
--     Beside               a parameter: handed on, or lent again.        lent_mut, lent_shared, number, truth     one of each kind, from a parameter and what its relation says
--     own..                of the parameters' own locals, one each.      loan..        of the two locals more of each that is lent again
--     own_locals, OwnAddrs, own_rooms, own_cells, own_env, OwnSpots      the locals, their addresses, their room and what they hold (one formula), their environment, and where they stand in one
--     behind os j          the number of the j-th local behind the parameters' own
--     relend_code, operands     the statements that lend slices again, and what the callee is handed
--     allocates-own, passes-own, frees-own, allocates-loans, frees-loans, lends_again, reads_all     the steps over all of them
-- Assumes `Logic`.
use mathlib.Core.Path.{◌≡◌, refl}
use Prim.Native.Nat.{ℕ, zero, suc, ◌<◌, ◌^◌}
use mathlib.Core.Bool.{Bool}
use mathlib.Core.List.{List, [], ◌∷◌}
use lib.ListN.{length}
use lib.Dec.{T as Holds}
use seplogic.Ra.Ura.{Ura}
use base.Fraction.{full_share}
use mir.Syntax.{Width, imm, ty_bool, ty_struct, tcons, tnil, w64, Ty, Lifetime, erased, ty_ref, ty_int, w8, Local, local, value_local, place, field}
use mir.Syntax.{deref, Opd as Operand, copy, addr_of, aggregate, Body, seq, assign}
use mir.Val.{Val, WT, has_ty, vptr, vint, vbool, bits}
use base.Logic.{ent, via}
use base.Fml.{Fml, ftrue, fsep, fat, froom, fdies}
use prog.Wp.{Heap, Env, Calls, Loops, spot_of}
use types.Logic.{Logic}
use types.Kit.{Post, Item, Goal, Go, Seq, runs, frees, allocs, passes, ‵, ⋆, ◌$◌, ◌∵◌, !, qed, move, drop, fsplit3, fjoin3, done}
use types.Run.{Opds, look, init, forget, stop, load, and_then, no_more, alloc1, alloc0, pass1, pass0, free1}
use denote.Builtin.{u8}
use denote.Ref.{Bor}
use denote.Slice.{slice_val, Room}
use denote.Steps.{nothing}
use Rattle.walks.proofs.Places.{slice_ty, pointer_ty, finds, relends}

pub data Beside : Type 0 where
  handed : (τ : Ty) (v : Val) → Holds (has_ty τ v) × WT v → Beside
  relent : (ℓ : Lifetime) (b o m : ℕ) → Room u8 m → Beside

-- ---- a parameter of each kind
abbrev pub lent_mut : Lifetime → (x : Bor (List ℕ)) → Room u8 (length x.now) → Beside
lent_mut ℓ x r = relent ℓ x.ref_ptr.0 x.ref_ptr.1 (length x.now) r

abbrev pub lent_shared : Lifetime → (x : Bor (List ℕ)) → Room u8 (length x.now) → Beside
lent_shared ℓ x r = handed (ty_struct (38 ∷ 91 ∷ 93 ∷ []) (tcons (ty_ref ℓ imm (ty_int w8)) (tcons (ty_int w64) tnil))) (slice_val x.ref_ptr (length x.now))
    (tt, (tt, (record { fits = r.0 }, tt)))

abbrev pub number : (w : Width) → Holds (has_ty (ty_int w) (vint w 0)) → (n : ℕ) → n < 2 ^ bits w → Beside
number w t n r = handed (ty_int w) (vint w n) (t, record { fits = r })

abbrev pub truth : Bool → Beside
truth b = handed ty_bool (vbool b) (tt, tt)

-- ---- its type and its machine value
abbrev pub ty_of : Beside → Ty
ty_of (handed τ v t) = τ
ty_of (relent ℓ b o m r) = slice_ty ℓ

abbrev pub value_of : Beside → Val
value_of (handed τ v t) = v
value_of (relent ℓ b o m r) = slice_val (b, o) m

pub typed : (x : Beside) → Holds (has_ty (ty_of x) (value_of x)) × WT (value_of x)
typed (handed τ v t) = t
typed (relent ℓ b o m r) = (tt, (tt, (record { fits = r.0 }, tt)))

abbrev pub values_of : List Beside → List Val
values_of [] = []
values_of (x ∷ os) = value_of x ∷ values_of os

-- ---- the locals
abbrev pub behind : List Beside → ℕ → ℕ
behind [] j = j
behind (x ∷ os) j = suc (behind os j)

abbrev pub own_locals : List Beside → List Local → List Local
own_locals [] ls = ls
own_locals (x ∷ os) ls = local (ty_of x) value_local ∷ own_locals os ls

abbrev pub loan_locals : List Beside → List Local
loan_locals [] = []
loan_locals (handed τ v t ∷ os) = loan_locals os
loan_locals (relent ℓ b o m r ∷ os) = local pointer_ty value_local ∷ local (slice_ty erased) value_local ∷ loan_locals os

abbrev pub OwnAddrs : List Beside → Type 0
OwnAddrs [] = Unit {0}
OwnAddrs (x ∷ os) = ℕ × OwnAddrs os

abbrev pub LoanAddrs : List Beside → Type 0
LoanAddrs [] = Unit {0}
LoanAddrs (handed τ v t ∷ os) = LoanAddrs os
LoanAddrs (relent ℓ b o m r ∷ os) = ℕ × (ℕ × LoanAddrs os)

abbrev pub own_rooms : (os : List Beside) → OwnAddrs os → Fml
own_rooms [] us = ftrue
own_rooms (x ∷ os) us = fsep (froom (ty_of x) us.0 zero) (fsep (fdies (ty_of x) us.0) (own_rooms os us.1))

abbrev pub own_cells : (os : List Beside) → OwnAddrs os → Fml
own_cells [] us = ftrue
own_cells (x ∷ os) us = fsep (fat full_share (ty_of x) us.0 zero (value_of x)) (fsep (fdies (ty_of x) us.0) (own_cells os us.1))

abbrev pub loan_rooms : (os : List Beside) → LoanAddrs os → Fml
loan_rooms [] bs = ftrue
loan_rooms (handed τ v t ∷ os) bs = loan_rooms os bs
loan_rooms (relent ℓ b o m r ∷ os) bs =
    fsep (froom pointer_ty bs.0 zero) (fsep (fdies pointer_ty bs.0)
    (fsep (froom (slice_ty erased) bs.1.0 zero) (fsep (fdies (slice_ty erased) bs.1.0) (loan_rooms os bs.1.1))))

abbrev pub loan_cells : (os : List Beside) → LoanAddrs os → Fml
loan_cells [] bs = ftrue
loan_cells (handed τ v t ∷ os) bs = loan_cells os bs
loan_cells (relent ℓ b o m r ∷ os) bs =
    fsep (fat full_share pointer_ty bs.0 zero (vptr b o))
    (fsep (fdies pointer_ty bs.0) (fsep (fat full_share (slice_ty erased) bs.1.0 zero (slice_val (b, o) m))
    (fsep (fdies (slice_ty erased) bs.1.0) (loan_cells os bs.1.1))))

-- ---- the code: i is the number of the first own local, j of the first loan's
abbrev pub relend_code : List Beside → ℕ → ℕ → Body → Body
relend_code [] i j rest = rest
relend_code (handed τ v t ∷ os) i j rest = relend_code os (suc i) j rest
relend_code (relent ℓ b o m r ∷ os) i j rest =
    seq (assign (place j []) (addr_of (place i (field 0 ∷ deref (ty_int w8) ∷ []))))
    (seq (assign (place (suc j) []) (aggregate (copy (place j []) ∷ copy (place i (field 1 ∷ [])) ∷ []))) (relend_code os (suc i) (suc (suc j)) rest))

abbrev pub operands : List Beside → ℕ → ℕ → List Operand
operands [] i j = []
operands (handed τ v t ∷ os) i j = copy (place i []) ∷ operands os (suc i) j
operands (relent ℓ b o m r ∷ os) i j = copy (place (suc j) []) ∷ operands os (suc i) (suc (suc j))

-- ---- where the locals stand
module _ {M : Type 1} (𝓤 : Ura M) (H : Heap 𝓤) where
  abbrev pub own_env : (os : List Beside) → OwnAddrs os → Env 𝓤 H → Env 𝓤 H
  own_env [] us E = E
  own_env (x ∷ os) us E = (ty_of x, us.0) ∷ own_env os us.1 E

  abbrev pub loan_env : (os : List Beside) → LoanAddrs os → Env 𝓤 H
  loan_env [] bs = []
  loan_env (handed τ v t ∷ os) bs = loan_env os bs
  loan_env (relent ℓ b o m r ∷ os) bs = (pointer_ty, bs.0) ∷ (slice_ty erased, bs.1.0) ∷ loan_env os bs.1.1

  abbrev pub OwnSpots : Env 𝓤 H → ℕ → (os : List Beside) → OwnAddrs os → Type 0
  OwnSpots E i [] us = Unit {0}
  OwnSpots E i (x ∷ os) us = (spot_of 𝓤 H E i ≡ (ty_of x, us.0, 0)) × OwnSpots E (suc i) os us.1

  abbrev pub LoanSpots : Env 𝓤 H → ℕ → (os : List Beside) → LoanAddrs os → Type 0
  LoanSpots E j [] bs = Unit {0}
  LoanSpots E j (handed τ v t ∷ os) bs = LoanSpots E j os bs
  LoanSpots E j (relent ℓ b o m r ∷ os) bs = (spot_of 𝓤 H E j ≡ (pointer_ty, bs.0, 0)) ×
      ((spot_of 𝓤 H E (suc j) ≡ (slice_ty erased, bs.1.0, 0)) × LoanSpots E (suc (suc j)) os bs.1.1)

  -- one local more in front
  pub own-spots-more : (e : Ty × ℕ) (E : Env 𝓤 H) (i : ℕ) (os : List Beside) (us : OwnAddrs os) → OwnSpots E i os us → OwnSpots (e ∷ E) (suc i) os us
  own-spots-more e E i [] us s = tt
  own-spots-more e E i (x ∷ os) us s = (s.0, own-spots-more e E (suc i) os us.1 s.1)

  pub loan-spots-more : (e : Ty × ℕ) (E : Env 𝓤 H) (j : ℕ) (os : List Beside) (bs : LoanAddrs os) → LoanSpots E j os bs → LoanSpots (e ∷ E) (suc j) os bs
  loan-spots-more e E j [] bs s = tt
  loan-spots-more e E j (handed τ v t ∷ os) bs s = loan-spots-more e E j os bs s
  loan-spots-more e E j (relent ℓ b o m r ∷ os) bs s = (s.0, (s.1.0, loan-spots-more e E (suc (suc j)) os bs.1.1 s.1.1))

  -- in their own environment
  pub own-spots : (os : List Beside) (us : OwnAddrs os) (E : Env 𝓤 H) → OwnSpots (own_env os us E) 0 os us
  own-spots [] us E = tt
  own-spots (x ∷ os) us E = (refl, own-spots-more (ty_of x, us.0) (own_env os us.1 E) 0 os us.1 (own-spots os us.1 E))

  pub loan-spots : (os : List Beside) (bs : LoanAddrs os) → LoanSpots (loan_env os bs) 0 os bs
  loan-spots [] bs = tt
  loan-spots (handed τ v t ∷ os) bs = loan-spots os bs
  loan-spots (relent ℓ b o m r ∷ os) bs = (
    refl,
    (
      refl,
      loan-spots-more (pointer_ty, bs.0) ((slice_ty erased, bs.1.0) ∷ loan_env os bs.1.1) 1 os bs.1.1
          (loan-spots-more (slice_ty erased, bs.1.0) (loan_env os bs.1.1) 0 os bs.1.1 (loan-spots os bs.1.1)),
    ),
  )

  -- behind the parameters' own
  pub spot-behind : (os : List Beside) (us : OwnAddrs os) (E : Env 𝓤 H) (j : ℕ) → spot_of 𝓤 H (own_env os us E) (behind os j) ≡ spot_of 𝓤 H E j
  spot-behind [] us E j = refl
  spot-behind (x ∷ os) us E j = spot-behind os us.1 E j

  pub loan-spots-behind : (os : List Beside) (us : OwnAddrs os) (E : Env 𝓤 H) (j : ℕ) (ps : List Beside) (bs : LoanAddrs ps) → LoanSpots E j ps bs → LoanSpots
      (own_env os us E) (behind os j) ps bs
  loan-spots-behind [] us E j ps bs s = s
  loan-spots-behind (x ∷ os) us E j ps bs s = loan-spots-more _ _ (behind os j) ps bs (loan-spots-behind os us.1 E j ps bs s)

-- ---- the steps
module _ {M : Type 1} {𝓤 : Ura M} (𝓛 : Logic 𝓤) where
  open 𝓛 use {H}

  abbrev Items : Type 2
  Items = List (Item 𝓤)

  abbrev Goes : Items → Goal 𝓤 H → Type 1
  Goes Γ g = Seq (Go {0}) 𝓛 Γ g

  pub allocates-own : (Γ : Items) (os : List Beside) (ls : List Local) (g : Env 𝓤 H → Goal 𝓤 H) →
      ((us : OwnAddrs os) → Goes (‵ (own_rooms os us) ∷ Γ) (allocs ls (λ E. g (own_env 𝓤 H os us E)))) → Goes Γ (allocs (own_locals os ls) g)
  allocates-own Γ [] ls g k = nothing ! $ k tt
  allocates-own Γ (x ∷ os) ls g k = alloc1 ! (λ a. allocates-own (‵ (froom (ty_of x) a 0) ∷ ‵ (fdies (ty_of x) a) ∷ Γ) os ls (λ E. g ((ty_of x, a) ∷ E)) (λ us. move ! (1 ∷ 2 ∷ 0 ∷ []) $ fjoin3 ! $ k (a, us)))

  pub allocates-loans : (Γ : Items) (os : List Beside) (g : Env 𝓤 H → Goal 𝓤 H) → ((bs : LoanAddrs os) → Goes (‵ (loan_rooms os bs) ∷ Γ) (g (loan_env 𝓤 H os bs)))
      → Goes Γ (allocs (loan_locals os) g)
  allocates-loans Γ [] g k = alloc0 ! $ nothing ! $ k tt
  allocates-loans Γ (handed τ v t ∷ os) g k = allocates-loans Γ os g k
  allocates-loans Γ (relent ℓ b o m r ∷ os) g k =
      alloc1 ! (λ a. alloc1 ! (λ a'. allocates-loans (‵ (froom (slice_ty erased) a' 0) ∷ ‵ (fdies (slice_ty erased) a') ∷ ‵ (froom pointer_ty a 0) ∷ ‵ (fdies pointer_ty a) ∷ Γ) os (λ E. g ((pointer_ty, a) ∷ (slice_ty erased, a') ∷ E))
      (λ bs. move ! (1 ∷ 2 ∷ 0 ∷ []) $ fjoin3 ! $ move ! (1 ∷ 2 ∷ 0 ∷ []) $ fjoin3 ! $ k (a, (a', bs)))))

  pub passes-own : (Γ : Items) (os : List Beside) (us : OwnAddrs os) (E : Env 𝓤 H) (g : Goal 𝓤 H) → Goes (‵ (own_cells os us) ∷ Γ) g → Goes
      (‵ (own_rooms os us) ∷ Γ) (passes (own_env 𝓤 H os us E) (values_of os) g)
  passes-own Γ [] us E g k = pass0 ! $ k
  passes-own Γ (x ∷ os) us E g k = fsplit3 ! $ pass1 ! (init ! 0 refl (typed x)) $ move ! (2 ∷ []) $ passes-own (‵ (fat full_share (ty_of x) us.0 zero (value_of x)) ∷ ‵ (fdies (ty_of x) us.0) ∷ Γ) os us.1 E g (move ! (1 ∷ 2 ∷ 0 ∷ []) $ fjoin3 ! $ k)

  pub frees-own : (Γ : Items) (os : List Beside) (us : OwnAddrs os) (E : Env 𝓤 H) (g : Goal 𝓤 H) → Goes Γ (frees E g) → Goes (‵ (own_cells os us) ∷ Γ) (frees (own_env 𝓤 H os us E) g)
  frees-own Γ [] us E g k = drop ! $ k
  frees-own Γ (x ∷ os) us E g k = fsplit3 ! $ forget ! 0 refl $ free1 ! $ frees-own Γ os us.1 E g k

  pub frees-loans : (Γ : Items) (os : List Beside) (bs : LoanAddrs os) (g : Goal 𝓤 H) → Goes Γ (frees [] g) → Goes (‵ (loan_cells os bs) ∷ Γ) (frees (loan_env 𝓤 H os bs) g)
  frees-loans Γ [] bs g k = drop ! $ k
  frees-loans Γ (handed τ v t ∷ os) bs g k = frees-loans Γ os bs g k
  frees-loans Γ (relent ℓ b o m r ∷ os) bs g k = fsplit3 ! $ forget ! 0 refl $ free1 ! $ fsplit3 ! $ forget ! 0 refl $ free1 ! $ frees-loans Γ os bs.1.1 g k

  module _ (C : Calls 𝓤 H) (Λ : Loops 𝓤 H) (E : Env 𝓤 H) (p : Post 𝓤 H) where
    pub lends_again : (Γ : Items) (os : List Beside) (us : OwnAddrs os) (bs : LoanAddrs os) (i j : ℕ) (rest : Body) → OwnSpots 𝓤 H E i os us → LoanSpots 𝓤 H E j os bs
        → Goes (‵ (own_cells os us) ∷ ‵ (loan_cells os bs) ∷ Γ) (runs C Λ E rest p) → Goes (‵ (own_cells os us) ∷ ‵ (loan_rooms os bs) ∷ Γ) (runs C Λ E (relend_code os i j rest) p)
    lends_again Γ [] us bs i j rest s u k = k
    lends_again Γ (handed τ v t ∷ os) us bs i j rest s u k =
        fsplit3 ! $ move ! (2 ∷ 3 ∷ []) $ lends_again (‵ (fat full_share τ us.0 zero v) ∷ ‵ (fdies τ us.0) ∷ Γ) os us.1 bs (suc i) j rest s.1 u (move ! (2 ∷ 3 ∷ 0 ∷ []) $ fjoin3 ! $ k)
    lends_again Γ (relent ℓ b o m r ∷ os) us bs i j rest s u k =
        fsplit3 ! $ move ! (3 ∷ []) $ fsplit3 ! $ move ! (2 ∷ []) $ fsplit3 ! $
        -- [room; dies; the other loans' rooms; room; dies; the slice; dies; the other slices; Γ]
        move ! (5 ∷ 3 ∷ 0 ∷ []) $ relends ! r s.0 u.0 u.1.0 $ move ! (7 ∷ 4 ∷ []) $ lends_again _ os us.1 bs.1.1 (suc i) (suc (suc j)) rest s.1 u.1.1
        (move ! (4 ∷ 5 ∷ 1 ∷ []) $ fjoin3 ! $ move ! (3 ∷ 4 ∷ 0 ∷ []) $ fjoin3 ! $ move ! (2 ∷ 3 ∷ 1 ∷ []) $ fjoin3 ! $ k)

  -- operands are read alike in contexts that say the same
  pub reads-alike : (Γ Δ : Items) (E : Env 𝓤 H) (xs : List Operand) (vs : List Val) → ent 𝓤 (⋆ 𝓛 Γ) (⋆ 𝓛 Δ) → ent 𝓤 (⋆ 𝓛 Δ) (⋆ 𝓛 Γ) → Opds
      (Go {0}) 𝓛 Δ E xs vs → Opds (Go {0}) 𝓛 Γ E xs vs
  reads-alike Γ Δ E xs vs to back reads = record { go = λ g h. via 𝓤 (⋆ 𝓛 Δ) to (reads.go g (via 𝓤 (⋆ 𝓛 Γ) back h)) }

  pub reads_all : (Γ : Items) (E : Env 𝓤 H) (os : List Beside) (us : OwnAddrs os) (bs : LoanAddrs os) (i j : ℕ) → OwnSpots 𝓤 H E i os us → LoanSpots 𝓤 H E j os
      bs → Opds (Go {0}) 𝓛 (‵ (own_cells os us) ∷ ‵ (loan_cells os bs) ∷ Γ) E (operands os i j) (values_of os)
  reads_all Γ E [] us bs i j s u = no_more !
  reads_all Γ E (handed τ v t ∷ os) us bs i j s u =
      let cell : Item 𝓤 = ‵ (fat full_share τ us.0 zero v) in
      let dies : Item 𝓤 = ‵ (fdies τ us.0) in
      let all : Items = ‵ (own_cells (handed τ v t ∷ os) us) ∷ ‵ (loan_cells os bs) ∷ Γ in
      let apart : Items = ‵ (own_cells os us.1) ∷ ‵ (loan_cells os bs) ∷ cell ∷ dies ∷ Γ in
      reads-alike all apart E _ _
      (qed 𝓛 all ∵ fsplit3 ! $ move ! (2 ∷ 3 ∷ []) $ done !)
      (qed 𝓛 apart ∵ move ! (2 ∷ 3 ∷ 0 ∷ []) $ fjoin3 ! $ done !)
      (and_then ! (load ! (finds ! s.0 (stop !)) (look ! 2 refl)) (reads_all (cell ∷ dies ∷ Γ) E os us.1 bs (suc i) j s.1 u))
  reads_all Γ E (relent ℓ b o m r ∷ os) us bs i j s u =
      let x : Beside = relent ℓ b o m r in
      let cell : Item 𝓤 = ‵ (fat full_share (slice_ty ℓ) us.0 zero (slice_val (b, o) m)) in
      let dies : Item 𝓤 = ‵ (fdies (slice_ty ℓ) us.0) in
      let cell₁ : Item 𝓤 = ‵ (fat full_share pointer_ty bs.0 zero (vptr b o)) in
      let dies₁ : Item 𝓤 = ‵ (fdies pointer_ty bs.0) in
      let cell₂ : Item 𝓤 = ‵ (fat full_share (slice_ty erased) bs.1.0 zero (slice_val (b, o) m)) in
      let dies₂ : Item 𝓤 = ‵ (fdies (slice_ty erased) bs.1.0) in
      let all : Items = ‵ (own_cells (x ∷ os) us) ∷ ‵ (loan_cells (x ∷ os) bs) ∷ Γ in
      let apart : Items = ‵ (own_cells os us.1) ∷ ‵ (loan_cells os bs.1.1) ∷ cell ∷ dies ∷ cell₁ ∷ dies₁ ∷ cell₂ ∷ dies₂ ∷ Γ in
      reads-alike all apart E _ _
      (qed 𝓛 all ∵ fsplit3 ! $ move ! (3 ∷ []) $ fsplit3 ! $ move ! (2 ∷ []) $ fsplit3 ! $ move ! (7 ∷ 2 ∷ 5 ∷ 6 ∷ 3 ∷ 4 ∷ 0 ∷ 1 ∷ []) $ done !)
      (qed 𝓛 apart ∵ move ! (6 ∷ 7 ∷ 1 ∷ []) $ fjoin3 ! $ move ! (4 ∷ 5 ∷ 0 ∷ []) $ fjoin3 ! $ move ! (2 ∷ 3 ∷ 1 ∷ []) $ fjoin3 ! $ done !)
      (and_then ! (load ! (finds ! u.1.0 (stop !)) (look ! 6 refl))
      (reads_all (cell ∷ dies ∷ cell₁ ∷ dies₁ ∷ cell₂ ∷ dies₂ ∷ Γ) E os us.1 bs.1.1 (suc i) (suc (suc j)) s.1 u.1.1))
