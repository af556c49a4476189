-- An open unit finished: one record, and then the unit as the log then says. Assumes nothing.
use Prim.Native.Nat.{ℕ, suc, ◌+◌, ◌-◌, ◌≤◌}
use native.Mathlib.Omega.{arith}
use mathlib.Core.Path.{◌≡◌, refl, sym, ap, ◌∙◌, subst}
use mathlib.Core.Bool.{Bool, true, false}
use mathlib.Core.List.{List, [], ◌∷◌, ◌++◌}
use mathlib.Core.Option.{Option, some, none, some-injective}
use borrow.Author.Tests.{le-leb}
use lib.ListN.{length, take}
use Rattle.field.specs.Test.{need, given, bind}
use Rattle.field.specs.Bytes.{Bytes, most4}
use Rattle.field.proofs.Test.{pick_true, pick-false, need-true}
use Rattle.logs.specs.Record.{saves, Image, Rec, LG, LE, size, sizes}
use Rattle.logs.specs.Plan.{Step, close}
use Rattle.logs.specs.Log.{Open, State, images_of, going, noting, opened_by, after, Log, read_log, at_end}
use Rattle.logs.specs.Valid.{Does, does-out, does-in, does-point, does-close}
use Rattle.logs.proofs.Filed.{images-more}
use Rattle.logs.proofs.Append.{at_end-grown}
use Rattle.logs.proofs.Read.{read_log-facts}
use Rattle.logs.proofs.Held.{ending-cons}
use Rattle.logs.proofs.Sound.{Imaged, Awaits, Waits, waits-open, waits-save, sound-at_end}
use Rattle.logs.proofs.Plan.{Works, works_out, works-in, works-point, Ending}
use Rattle.unit.specs.Next.{targets, apply}
use Rattle.unit.proofs.Pagewise.{apply-stays}
use Rattle.saving.specs.Rest.{Rest, refuses, lacks, logging}
use Rattle.saving.proofs.Resumes.{resumed-more}
use Rattle.store.specs.Calls.{Went, stopped, went, and_then, logged, log_length, append, append_all, conclude, rest_long, lacked_by, finish, finish_open}
use Rattle.forward.specs.Appends.{append_first, append_open}
use Rattle.forward.proofs.Grows.{append-grows}
use Rattle.forward.proofs.Saves.{First, first-concluded, length_more, lacks-some, save-lacks}

-- what comes after one record
abbrev pub onward : (s : State) (w l : List ℕ) → Went
onward s w l = finish_open s.opened s w l

-- ---- a unit that tidies

works-not : {x : Step} (v : ℕ) → Works x → x ≡ close v → ⊥
works-not v works_out e = let z : ◌≡◌ {A = ℕ} 0 1 = cc in omega arith
works-not v works-in e = let z : ◌≡◌ {A = ℕ} 0 1 = cc in omega arith
works-not v works-point e = let z : ◌≡◌ {A = ℕ} 0 1 = cc in omega arith

-- after LE nothing is to come
pub ending-close : {u : ℕ} (v : ℕ) (x : Step) (xs : List Step) → Ending u (x ∷ xs) → x ≡ close v → xs ≡ []
ending-close v x xs Ending.last e = refl
ending-close v x xs (Ending.more w h) e = absurd (works-not v w e)

-- after the next record the steps to come are the others
module _ (o : Open) (xs : List Step) (v : saves o.start ≡ false) (s : State) (w l : List ℕ) where
  going_on : (r : Rec) (x : Step) → o.todo ≡ x ∷ xs → finish_open (some (going r o)) s w l ≡ finish xs s w l
  unfolding finish_open going
  going_on r x e = pick-false _ _ _ v ∙ rw e

  pub finish-after : {u : ℕ} {x : Step} {r : Rec} → Does o.did x r → o.todo ≡ x ∷ xs → Ending u (x ∷ xs) → finish_open (opened_by r (some o)) s w l ≡ finish xs s w l
  unfolding opened_by bind
  finish-after (does-out m) e h = going_on _ _ e
  finish-after (does-in q) e h = going_on _ _ e
  finish-after (does-point k) e h = going_on _ _ e
  finish-after (does-close {unit = y}) e h = unfold finish_open finish in (rw (ending-close y (close y) xs h refl))

-- ---- a put or delete

take_all : {A : Type 0} (rs : List A) → take (length rs) rs ≡ rs
take_all [] = refl
take_all (r ∷ rs) = ap (λ (x : List _). r ∷ x) (take_all rs)

-- all that is lacked, its first record apart
conclude-first : (r : Rec) (rs : List Rec) (s : State) (w l : List ℕ)
    → conclude (suc (length rs)) (lacks (r ∷ rs)) s w l ≡ and_then (conclude 1 (lacks (r ∷ rs)) s w l) (append_all rs)
unfolding conclude
conclude-first r rs s w l = by_tests _ _
  where
    by-change : (o : Option (List ℕ)) → given o (stopped 5) (λ w'. and_then (logged s r w' l) (append_all (take (length rs) rs)))
        ≡ and_then (given o (stopped 5) (λ w'. and_then (logged s r w' l) (append_all []))) (append_all rs)
    by-change none = unfold given and_then in refl
    by-change (some w') = unfold given and_then append_all in (rw (take_all rs))

    by_tests : (a b : Bool) → need a (stopped 6) (need b (stopped 7) (append_all (r ∷ take (length rs) rs) s w l))
        ≡ and_then (need a (stopped 6) (need b (stopped 7) (append_all (r ∷ []) s w l))) (append_all rs)
    by_tests true true = unfold need append_all in (by-change (apply (s.number + 1) r w))
    by_tests true false = unfold need and_then in refl
    by_tests false b = unfold need and_then in refl

-- an LG and an LE that are applied
applied-image : (n : ℕ) (i : Image) (w w' : List ℕ) → apply n (LG i) w ≡ some w' → w ≡ w'
unfolding targets
applied-image n i w w' e = some-injective _ _ (sym (apply-stays n (LG i) w refl) ∙ e)

-- once the LG is logged the others are lacked
noted : (o : Open) (s : State) (w : List ℕ) (k : Image) (rs : List Rec) → Imaged o.did → length o.did ≤ s.number → s.number + suc (length rs) ≤ most4
    → lacked_by o s w ≡ lacks (LG k ∷ rs) → lacked_by (noting (LG k) o) (after s (LG k)) w ≡ lacks rs
unfolding lacked_by noting after images_of
noted o s w k rs p few h e =
    let n : s.number + 1 - suc (length o.did) ≡ s.number - length o.did = omega arith in
    rw (n, images-more o.did (k ∷ [])) (resumed-more o.start (s.number - length o.did) (images_of o.did []) w k rs (omega (arith, length_more [] o.did p, few, h)) e)

-- all of them, where there is room
conclude-all : (rs : List Rec) (s : State) (w l : List ℕ) → s.at + sizes rs ≤ log_length → s.number + length rs ≤ most4
    → conclude (length rs) (lacks rs) s w l ≡ append_all rs s w l
unfolding conclude
conclude-all rs s w l a b =
    need-true _ (stopped 6) _ (le-leb _ log_length a) ∙ need-true _ (stopped 7) _ (le-leb _ most4 b) ∙ ap (λ (x : List Rec). append_all x s w l) (take_all rs)

finish-lacks : (o : Open) (s : State) (w l : List ℕ) (rs : List Rec) → saves o.start ≡ true → lacked_by o s w ≡ lacks rs
    → finish_open (some o) s w l ≡ conclude (length rs) (lacks rs) s w l
unfolding finish_open rest_long
finish-lacks o s w l rs v e = pick_true _ _ _ v ∙ ap (λ (x : Rest). conclude (rest_long x) x s w l) e

-- an LE ends the unit
ended : (s s' : State) (u : ℕ) (js : List Image) (w l : List ℕ) → s' ≡ after s (LE u js) → went s' w l ≡ onward s' w l
unfolding after opened_by finish_open
ended s s' u js w l z = sym (ap (λ (x : Option Open). finish_open x s' w l) (ap (λ (v : State). v.opened) z))

opened-noted : (s s' : State) (o : Open) (k : Image) → s.opened ≡ some o → s' ≡ after s (LG k) → s'.opened ≡ some (noting (LG k) o)
unfolding after opened_by bind
opened-noted s s' o k e z = ap (λ (v : State). v.opened) z ∙ ap (λ (x : Option Open). opened_by (LG k) x) e

-- the others after an LG
module _ (o : Open) (v : saves o.start ≡ true) (p : Imaged o.did) (s : State) (is : s.opened ≡ some o) (few : length o.did ≤ s.number) where
  image-on : (k : Image) (rs : List Rec) (s' : State) (w l : List ℕ) → lacked_by o s w ≡ lacks (LG k ∷ rs) → s.at + (size (LG k) + sizes rs) ≤ log_length
      → s.number + suc (length rs) ≤ most4 → s' ≡ after s (LG k) → append_all rs s' w l ≡ onward s' w l
  unfolding after
  image-on k rs s' w l e a b z =
      let at : s'.at ≡ s.at + size (LG k) = ap (λ (x : State). x.at) z in
      let number : s'.number ≡ s.number + 1 = ap (λ (x : State). x.number) z in
      let rest : lacked_by (noting (LG k) o) s' w ≡ lacks rs =
      subst (λ (x : State). lacked_by (noting (LG k) o) x w ≡ lacks rs) (sym z) (noted o s w k rs p few b e) in
      sym
      (ap (λ (x : Option Open). finish_open x s' w l) (opened-noted s s' o k is z)
      ∙ finish-lacks (noting (LG k) o) s' w l rs (saves-noted k) rest
      ∙ conclude-all rs s' w l (omega (arith, at, a)) (omega (arith, number, b)))
    where
      saves-noted : (k : Image) → saves (noting (LG k) o).start ≡ true
      saves-noted k = unfold noting in v

  -- the others, whichever the first is
  by-images : (u : ℕ) (js ks : List Image) (r : Rec) (rs : List Rec) (s' : State) (w w' l : List ℕ) → r ∷ rs ≡ logging ks ++ (LE u js ∷ []) → lacked_by o s w ≡ lacks (r ∷ rs)
      → s.at + (size r + sizes rs) ≤ log_length → s.number + suc (length rs) ≤ most4 → apply (s.number + 1) r w ≡ some w' → s' ≡ after s r
      → append_all rs s' w' l ≡ onward s' w' l
  unfolding logging append_all
  by-images u js [] r rs s' w w' l q e a b c z =
      let last : r ≡ LE u js = cc in
      let none_left : rs ≡ [] = cc in
      let on : went s' w' l ≡ onward s' w' l = ended s s' u js w' l (z ∙ ap (after s) last) in
      ap (λ (x : List Rec). append_all x s' w' l) none_left ∙ on
  by-images u js (k ∷ ks) r rs s' w w' l q e a b c z =
      let image : r ≡ LG k = cc in
      let stays : w ≡ w' = applied-image (s.number + 1) k w w' (subst (λ (x : Rec). apply (s.number + 1) x w ≡ some w') image c) in
      subst (λ (x : List ℕ). append_all rs s' x l ≡ onward s' x l) stays
      (image-on k rs s' w l (e ∙ ap (λ (x : Rec). lacks (x ∷ rs)) image) (subst (λ (x : Rec). s.at + (size x + sizes rs) ≤ log_length) image a) b (z ∙ ap (after s) image))

-- ---- one record, then the others

and-then-same : (y : Went) (f h : State → List ℕ → List ℕ → Went) → ((s : State) (w l : List ℕ) → y ≡ went s w l → f s w l ≡ h s w l) → and_then y f ≡ and_then y h
unfolding and_then
and-then-same (stopped r) f h e = refl
and-then-same (went s w l) f h e = e s w l refl

module _ (g : Log) (o : Open) (w l : List ℕ) (whole : length w ≡ 16384) (long : length l ≡ 8192) (bw : Bytes w) (bl : Bytes l) (read : read_log l ≡ some g)
    (is : (at_end g).opened ≡ some o) where
  waits : Waits (at_end g).unit (some o)
  waits = subst (Waits (at_end g).unit) is (sound-at_end g ((read_log-facts l g read).good bl)).waits

  tidying : saves o.start ≡ false → (x : Step) (xs : List Step) → o.todo ≡ x ∷ xs → finish_open (some o) (at_end g) w l ≡ and_then (append_open o (at_end g) w l) onward
  unfolding finish_open append_open append_first finish after
  tidying v x xs t =
      pick-false _ _ _ v ∙ ap (λ (ts : List Step). finish ts (at_end g) w l) t
      ∙ and-then-same (append x xs (at_end g) w l) (finish xs) onward
      (λ s' w' l' e.
      let k = append-grows g o x xs w l s' w' l' long bw bl read is v t e in
      let z : s'.opened ≡ opened_by k.added (some o) =
      ap (λ (y : State). y.opened) (k.grown.state ∙ at_end-grown g k.added) ∙ ap (opened_by k.added) is in
      sym (ap (λ (y : Option Open). finish_open y s' w' l') z ∙ finish-after o xs v s' w' l' k.does t (subst (Ending (at_end g).unit) t (waits-open waits v).todo)))
      ∙ sym (ap (λ (y : Went). and_then y onward) (pick-false _ _ _ v ∙ ap (λ (ts : List Step). append_first ts (at_end g) w l) t))

  saving : length o.did ≤ (at_end g).number → saves o.start ≡ true → finish_open (some o) (at_end g) w l ≡ and_then (append_open o (at_end g) w l) onward
  unfolding finish_open append_open rest_long
  saving few v = pick_true _ _ _ v ∙ by-rest (lacked_by o (at_end g) w) refl ∙ sym (ap (λ (y : Went). and_then y onward) (pick_true _ _ _ v))
    where
      by-rest : (x : Rest) → lacked_by o (at_end g) w ≡ x → conclude (rest_long x) x (at_end g) w l ≡ and_then (conclude 1 x (at_end g) w l) onward
      by-rest (refuses r) e = unfold conclude and_then in refl
      by-rest (lacks []) e = absurd (omega (arith, lacks-some g o w l whole bw bl read is v [] e))
      by-rest (lacks (r ∷ rs)) e =
          conclude-first r rs (at_end g) w l
          ∙ and-then-same (conclude 1 (lacks (r ∷ rs)) (at_end g) w l) (append_all rs) onward
          (λ s' w' l' q.
          let c : First r rs (at_end g) w l s' w' l' = first-concluded r rs (at_end g) w l s' w' l' q in
          let k = save-lacks g o w l whole bw bl read is v (r ∷ rs) e in
          by-images o v (waits-save waits v).images (at_end g) is few o.start.unit _ k.others r rs s' w w' l' k.recs e c.fits c.numbered c.applied c.state)

  pub finish-one : length o.did ≤ (at_end g).number → finish_open (some o) (at_end g) w l ≡ and_then (append_open o (at_end g) w l) onward
  finish-one few = by_kind (saves o.start) refl
    where
      by_kind : (t : Bool) → saves o.start ≡ t → finish_open (some o) (at_end g) w l ≡ and_then (append_open o (at_end g) w l) onward
      by_kind true v = saving few v
      by_kind false v = by-todo (waits-open waits v)
        where
          by-todo : Awaits (at_end g).unit o → finish_open (some o) (at_end g) w l ≡ and_then (append_open o (at_end g) w l) onward
          by-todo a = let c = ending-cons a.todo in tidying v c.head c.tail c.is
