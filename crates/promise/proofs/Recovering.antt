-- Recovery on bytes, where the generic half says that recovery is accepted: what it leaves. Assumes nothing but the unit laws, which are handed in.
use Prim.Native.Nat.{ℕ, zero, suc, ◌+◌, ◌-◌, ◌≤◌, ◌<◌}
use native.Mathlib.Omega.{arith}
use mathlib.Core.Path.{◌≡◌, refl, sym, ap, ◌∙◌, subst}
use mathlib.Core.Bool.{true}
use mathlib.Core.List.{List, [], ◌∷◌, ◌++◌}
use mathlib.Core.Option.{Option, some, none, some-injective}
use mathlib.Core.Option as Option
use lib.ListN.{length, get_or, length-append}
use borrow.Author.Tests.{le-leb}
use Rattle.field.proofs.Test.{both-intro, need-true, given-some}
use Rattle.page.specs.Page.{number}
use Rattle.page.specs.Pages.{page, pages}
use Rattle.page.proofs.Pages.{length-pages, get_or-pages, formed-pages}
use Rattle.logs.specs.Record.{Check, Rec}
use Rattle.logs.specs.Log.{Open, State}
use Rattle.logs.proofs.State.{number-at_end}
use Rattle.logs.specs.Valid.{Follows, Fits, Good}
use Rattle.logs.proofs.Sound.{sound-at_end}
use Rattle.unit.specs.Next.{apply}
use Rattle.store.specs.Calls.{Lent, lent, Left, left, three_sized, refused, zeroed, none_newer, Went, went, and_then, finish_open, recovered}
use Rattle.store.specs.Calls as Calls
use Rattle.replay.specs.Store.{Formed, Settled, Uncut, Recovers}
use Rattle.replay.specs.Store as Replay
use Rattle.replay.specs.Laws.{UnitLaws}
use Rattle.replay.proofs.Theorem.{ran-shape, ran-formed, ran-step}
use Rattle.forward.specs.Appends.{append_open}
use Rattle.forward.proofs.Finish.{onward, finish-one}
use Rattle.promise.specs.Promise.{saved_by}
use Rattle.promise.specs.Parts.{log_of, state_of, next_in, store, asked}
use Rattle.promise.proofs.OnPages.{page-laws}
use Rattle.promise.proofs.Standing.{last_fits}
use Rattle.promise.proofs.Saved.{saved-more}
use Rattle.promise.proofs.Image.{image, Stored, read-image, length-image, bytes-image}
use Rattle.promise.proofs.Forward.{open_none, some-open, open_is, few-done, apply_at, repeat-is}

-- ---- reply 4

none-newer-from : (last : ℕ) (pgs : List (List ℕ)) → ((i : ℕ) → i < length pgs → number (get_or pgs i []) ≤ last) → none_newer last pgs ≡ true
unfolding none_newer
none-newer-from last [] h = refl
none-newer-from last (pg ∷ pgs) h =
    both-intro _ _ (le-leb (number pg) last (h 0 (omega arith))) (none-newer-from last pgs (λ i k. h (suc i) (omega arith)))

pub none-newer : (last : ℕ) (w : List ℕ) → ((p : ℕ) → p < 64 → number (page p w) ≤ last) → none_newer last (pages w) ≡ true
none-newer last w h =
    none-newer-from last (pages w) (λ i k. let small : i < 64 = omega (arith, length-pages w) in rw (get_or-pages i w small) (h i small))

-- ---- recovery

-- what it leaves, by what the generic half gives
abbrev pub recovered_as : (d : Lent) (c : Check) (l : List Rec) (work : List ℕ) (rest : List Rec) → Left
recovered_as d c l work rest =
    left 0 (length rest ∷ []) (lent (state_of c (l ++ rest)).at (state_of c l).at work d.store (image c (l ++ rest)) d.bytes)

finish-shut : (o : Option Open) (s : State) (w l : List ℕ) → o ≡ none → finish_open o s w l ≡ went s w l
unfolding finish_open
finish-shut o s w l e = rw e

went_on : (s : State) (w l : List ℕ) → and_then (went s w l) onward ≡ onward s w l
unfolding and_then
went_on s w l = refl

-- the generic finish, one record and then the others
one-record : (c : Check) (k : ℕ) (w v : List ℕ) (l : List Rec) (r : Rec) → store.next c w l ≡ some r → apply (c.number + length l + 1) r w ≡ some v
    → Replay.finish store c (suc k) w l ≡ Replay.finish store c k v (l ++ (r ∷ []))
unfolding Replay.finish Option.bind
one-record c k w v l r next applies = rw (next, applies)

-- recovery's finishing, on bytes, is that of the generic half: from pages and log of an uncut run, one record after the other
module _ (U : UnitLaws store asked) (o : List ℕ) (c : Check) (g : Settled store asked o o c []) where
  stored_at : {w : List ℕ} {l : List Rec} → Uncut store asked o c w l → Stored c l
  stored_at u = let s = ran-shape store asked page-laws U g u in record { good = s.0; fits = s.1 }

  finish-is : (k : ℕ) {w : List ℕ} {l : List Rec} (w' : List ℕ) (l' : List Rec) → Uncut store asked o c w l → store.left c w l ≡ k
      → Replay.finish store c k w l ≡ some (w', l') → finish_open (state_of c l).opened (state_of c l) w (image c l) ≡ went (state_of c l') w' (image c l')
  unfolding Replay.finish
  finish-is zero {w} {l} w' l' u z e =
      let f : Formed store asked w = ran-formed store asked page-laws U g u in
      let s = ran-shape store asked page-laws U g u in
      let n : (state_of c l).opened ≡ none =
      open_none (state_of c l).opened (state_of c l) w (sound-at_end (log_of c l) s.0).waits f.sized.0 f.sized.1 z in
      let y : List ℕ × List Rec = (w, l) in
      let y' : List ℕ × List Rec = (w', l') in
      let q : y ≡ y' = some-injective y y' e in
      subst (λ (x : List ℕ × List Rec). finish_open (state_of c l).opened (state_of c l) w (image c l) ≡ went (state_of c x.1) x.0 (image c x.1)) q
      (finish-shut (state_of c l).opened (state_of c l) w (image c l) n)
  finish-is (suc k) {w} {l} w' l' u z e =
      let s : Stored c l = stored_at u in
      let f : Formed store asked w = ran-formed store asked page-laws U g u in
      let (r, v, next, applies, fewer) = ran-step store asked page-laws U g u z in
      let more : Uncut store asked o c v (l ++ (r ∷ [])) = Uncut.step u z next applies in
      let (x, is) = some-open (state_of c l).opened (state_of c l) w k z in
      let fits : Fits (state_of c l) r = last_fits c l r (stored_at more).good in
      let then : Replay.finish store c k v (l ++ (r ∷ [])) ≡ some (w', l') = sym (one-record c k w v l r next applies) ∙ e in
      let here : apply ((state_of c l).number + 1) r w ≡ some v =
      apply_at (c.number + length l) (state_of c l).number r w v (sym (number-at_end (log_of c l))) applies in
      let first : append_open x (state_of c l) w (image c l) ≡ went (state_of c (l ++ (r ∷ []))) v (image c (l ++ (r ∷ []))) =
      open_is c l w v r s.good fits here x (subst (λ (y : Option Open). next_in y (state_of c l) w ≡ some r) is next) in
      ap (λ (y : Option Open). finish_open y (state_of c l) w (image c l)) is
      ∙ finish-one (log_of c l) x w (image c l) f.sized.0 (length-image c l s) f.sized.1 (bytes-image c l s.good) (read-image c l s.good) is
      (few-done (log_of c l) x is)
      ∙ ap (λ (y : Went). and_then y onward) first
      ∙ went_on (state_of c (l ++ (r ∷ []))) v (image c (l ++ (r ∷ [])))
      ∙ finish-is k w' l' more fewer then

  -- it begins no unit, so that no record is saved
  finish-saves : (k : ℕ) {w : List ℕ} {l : List Rec} (w' : List ℕ) (l' : List Rec) → Uncut store asked o c w l → store.left c w l ≡ k
      → Replay.finish store c k w l ≡ some (w', l') → (rs : List (List ℕ)) → saved_by l' rs ≡ saved_by l rs
  unfolding Replay.finish
  finish-saves zero {w} {l} w' l' u z e rs =
      let y : List ℕ × List Rec = (w, l) in
      let y' : List ℕ × List Rec = (w', l') in
      let q : y ≡ y' = some-injective y y' e in
      ap (λ (x : List ℕ × List Rec). saved_by x.1 rs) (sym q)
  finish-saves (suc k) {w} {l} w' l' u z e rs =
      let (r, v, next, applies, fewer) = ran-step store asked page-laws U g u z in
      let more : Uncut store asked o c v (l ++ (r ∷ [])) = Uncut.step u z next applies in
      let (x, is) = some-open (state_of c l).opened (state_of c l) w k z in
      let fits : Fits (state_of c l) r = last_fits c l r (stored_at more).good in
      finish-saves k w' l' more fewer (sym (one-record c k w v l r next applies) ∙ e) rs
      ∙ saved-more l rs (subst (λ (y : Option Open). Follows (state_of c l).unit y r) is fits.follows)

  module _ (d : Lent) (l : List Rec) where
    grown-count : (rest : List Rec) → (state_of c (l ++ rest)).number - (state_of c l).number ≡ length rest
    grown-count rest = omega (arith, number-at_end (log_of c (l ++ rest)), number-at_end (log_of c l), length-append l rest)

    finishes : (v : Recovers store asked o d.store c l) → Replay.finish store c (store.left c v.found l) v.found l ≡ some (v.work, l ++ v.rest)
    unfolding Replay.recover Option.bind
    finishes v = rw v.repeated at v.accepted

    pub recover-saves : (v : Recovers store asked o d.store c l) (rs : List (List ℕ)) → saved_by (l ++ v.rest) rs ≡ saved_by l rs
    recover-saves v rs = finish-saves (store.left c v.found l) v.work (l ++ v.rest) v.before refl (finishes v) rs

    pub recover-is : three_sized d ≡ true → d.log ≡ image c l → Good (log_of c l) → (v : Recovers store asked o d.store c l)
        → Calls.recover d ≡ recovered_as d c l v.work v.rest
    unfolding Calls.recover recovered
    recover-is sized log h v =
        let f : finish_open (state_of c l).opened (state_of c l) v.found d.log ≡ went (state_of c (l ++ v.rest)) v.work (image c (l ++ v.rest)) =
        ap (finish_open (state_of c l).opened (state_of c l) v.found) log
        ∙ finish-is (store.left c v.found l) v.work (l ++ v.rest) v.before refl (finishes v) in
        need-true _ (refused 1 1 d) _ sized
        ∙ given-some _ (log_of c l) (zeroed 2 d) _ (rw log (read-image c l h))
        ∙ need-true _ (zeroed 3 d) _ (formed-pages d.store v.page-form.form)
        ∙ need-true _ (zeroed 4 d) _ (none-newer (state_of c l).number d.store (λ p i. rw (number-at_end (log_of c l)) (v.numbers p i)))
        ∙ given-some _ v.found (zeroed 5 d) _ (repeat-is (c.number + 1) l d.store v.found v.repeated)
        ∙ ap (recovered d (state_of c l)) f
        ∙ need-true _ (zeroed 8 d) _ v.settled.fine.0
        ∙ ap
        (λ (n : ℕ). left 0 (n ∷ []) (lent (state_of c (l ++ v.rest)).at (state_of c l).at v.work d.store (image c (l ++ v.rest)) d.bytes))
        (grown-count v.rest)
