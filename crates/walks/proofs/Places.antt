-- Places of locals where the environment is a variable, and a lent slice that the code lends again.
--     finds, reads-result     a local's place, and the result's local
--     slice_ty, pointer_ty      the MIR types of a `&mut [u8]` and of the pointer in one that is lent again
--     relends                 a `&mut [u8]` that is handed on: two statements lend it again
-- Assumes `Logic`.
use mathlib.Core.Path.{◌≡◌, refl, sym, subst}
use Prim.Native.Nat.{ℕ, zero}
use mathlib.Core.List.{List, [], ◌∷◌}
use seplogic.Ra.Ura.{Ura}
use base.Fraction.{full_share}
use mir.Syntax.{erased, Lifetime, mut, ty_ref, ty_int, w8, w64, addr_of, aggregate, Ty, ty_struct, tcons, tnil, place, Step as PlaceStep, field, deref, copy, Body, seq, assign}
use mir.Val.{Val, vptr}
use base.Fml.{fat, froom}
use prog.Wp.{Env, Spot, Calls, Loops, spot_of}
use types.Logic.{Logic}
use types.Kit.{Post, Item, Step, step, runs, ‵, ◌$◌}
use types.Run.{Reads, Finds, Walks, look, init, stop, hop, fld, from, load, addr, and_then, no_more, assigns}
use types.Part.{whole, sub, look_in, agg}
use denote.Builtin.{u8}
use denote.Slice.{slice_val, Room}

-- `&[]` is the name of a slice
abbrev pub slice_ty : Lifetime → Ty
slice_ty ℓ = ty_struct (38 ∷ 91 ∷ 93 ∷ []) (tcons (ty_ref ℓ mut (ty_int w8)) (tcons (ty_int w64) tnil))

abbrev pub pointer_ty : Ty
pointer_ty = ty_ref erased mut (ty_int w8)

module _ {M : Type 1} {𝓤 : Ura M} {𝓛 : Logic 𝓤} {K : Type 0} {Γ : List (Item 𝓤)} where
  open 𝓛 use {H}

  pub finds : K → {E : Env 𝓤 H} {i : ℕ} {st : List PlaceStep} {sp sp' : Spot 𝓤 H} → spot_of 𝓤 H E i ≡ sp → Walks K 𝓛 Γ E sp st sp' → Finds K 𝓛 Γ E (place i st) sp'
  finds t {E} {i} {st} {sp} {sp'} e w = from t (subst (λ (s : Spot 𝓤 H). Walks K 𝓛 Γ E s st sp') (sym e) w)

  pub reads-result : K → (E : Env 𝓤 H) {τ : Ty} {l o : ℕ} {r : Val} → spot_of 𝓤 H E 0 ≡ (τ, l, o) → Reads K 𝓛 Γ τ l zero r → Reads K 𝓛 Γ (spot_of 𝓤 H E 0).0
      (spot_of 𝓤 H E 0).1 zero r
  reads-result t E {r = r} e reads = subst (λ (s : Spot 𝓤 H). Reads K 𝓛 Γ s.0 s.1 zero r) (sym e) reads

module _ {M : Type 1} {𝓤 : Ura M} {𝓛 : Logic 𝓤} {K : Type 0} {Γ : List (Item 𝓤)} where
  -- local i is the slice; j and k are the pointer and the slice that are made of it
  open 𝓛 use {H}

  pub relends : K → {C : Calls 𝓤 H} {Λ : Loops 𝓤 H} {E : Env 𝓤 H} {q : Post 𝓤 H} {rest : Body} {ℓ : Lifetime} {i j k lᵢ lⱼ lₖ b o m : ℕ} → Room u8 m
      → spot_of 𝓤 H E i ≡ (slice_ty ℓ, lᵢ, 0) → spot_of 𝓤 H E j ≡ (pointer_ty, lⱼ, 0) → spot_of 𝓤 H E k ≡ (slice_ty erased, lₖ, 0)
      → Step K 𝓛 (‵ (fat full_share (slice_ty ℓ) lᵢ 0 (slice_val (b, o) m)) ∷ ‵ (fat full_share pointer_ty lⱼ 0 (vptr b o)) ∷ ‵
      (fat full_share (slice_ty erased) lₖ 0 (slice_val (b, o) m)) ∷ Γ) (runs C Λ E rest q)
      (‵ (fat full_share (slice_ty ℓ) lᵢ 0 (slice_val (b, o) m)) ∷ ‵ (froom pointer_ty lⱼ 0) ∷ ‵ (froom (slice_ty erased) lₖ 0) ∷ Γ)
      (runs C Λ E (seq (assign (place j []) (addr_of (place i (field 0 ∷ deref (ty_int w8) ∷ []))))
      (seq (assign (place k []) (aggregate (copy (place j []) ∷ copy (place i (field 1 ∷ [])) ∷ []))) rest)) q)
  relends t room eᵢ eⱼ eₖ = step (λ s.
      assigns t (addr t (finds t eᵢ (fld t refl (hop t (look_in t 0 (sub t 0 refl (whole t))) (stop t))))) (finds t eⱼ (stop t)) (init t 1 refl (tt, tt)) $
      assigns t (agg t (and_then t (load t (finds t eⱼ (stop t)) (look t 1 refl))
      (and_then t (load t (finds t eᵢ (fld t refl (stop t))) (look_in t 0 (sub t 1 refl (whole t)))) (no_more t)))) (finds t eₖ (stop t))
      (init t 2 refl (tt, (tt, (record { fits = room.0 }, tt)))) $ s)
