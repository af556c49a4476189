-- Each way through recovery's tests, as a law: first of its definition, then over what the code has at each of its answers.
-- Assumes nothing.
use Prim.Native.Nat.{ℕ, ◌+◌, ◌-◌, ◌≤◌}
use native.Mathlib.Omega.{arith}
use mathlib.Core.Path.{◌≡◌, refl, sym, ap, ◌∙◌}
use mathlib.Core.Bool.{Bool, true, false, not, false≢true}
use mathlib.Core.List.{List, [], ◌∷◌, ◌++◌, append-nil}
use mathlib.Core.Option.{Option, some, none}
use lib.ListN.{length, take, drop, drop_of_length-le}
use lib.Seq.{take_at}
use borrow.Author.Tests.{not-true, not-false}
use Rattle.field.specs.Test.{there}
use Rattle.field.specs.Bytes.{Bytes, put, zeroes}
use Rattle.field.proofs.Test.{need-true, need-false, given-some, given-none, bind-intro, there-some}
use Rattle.field.proofs.Part.{put_whole}
use Rattle.field.proofs.Zero.{length-zeroes}
use Rattle.page.specs.Pages.{pages, all_formed}
use Rattle.logs.specs.Log.{State, Log, read_log, at_end, encode_log}
use Rattle.logs.specs.Scan.{scanned}
use Rattle.logs.specs.declared.scan.Walk.{Walk}
use Rattle.logs.specs.declared.scan.Scan.{Scan}
use Rattle.logs.proofs.State.{length-encode_log}
use Rattle.logs.proofs.Read.{ReadLog, read_log-facts}
use Rattle.logs.proofs.Toward.{scanned-walk}
use Rattle.tree.specs.Tree.{well_formed}
use Rattle.unit.specs.Next.{repeat_all}
use Rattle.unit.specs.Again.{repeated, Repeated}
use Rattle.unit.proofs.Kept.{log-form}
use Rattle.store.specs.Calls.{Lent, lent, Left, left, refused, zeroed, three_sized, none_newer, stopped, went, recovered, recover}
use Rattle.recovering.specs.Finishes.{Found, finishing, Ended, Finishes, completing}
use Rattle.store.proofs.Chain.{three-no-work, three-no-store, three-no-log, three-sized}
use Rattle.recovering.proofs.Finishing.{Was, was, shown_ok, at-is, number_is, finishing-is}

-- ---- recovery's definition

module _ (d : Lent) where
  pub recover-unsized : three_sized d ≡ false → recover d ≡ refused 1 1 d
  unfolding recover
  recover-unsized e = need-false (three_sized d) (refused 1 1 d) _ e

  module _ (s : three_sized d ≡ true) where
    pub recover-unread : read_log d.log ≡ none → recover d ≡ zeroed 2 d
    unfolding recover
    recover-unread e = need-true (three_sized d) (refused 1 1 d) _ s ∙ given-none (read_log d.log) (zeroed 2 d) _ e

    module _ (g : Log) (e : read_log d.log ≡ some g) where
      pub recover-unformed : all_formed 0 (pages d.store) ≡ false → recover d ≡ zeroed 3 d
      unfolding recover
      recover-unformed f =
          need-true (three_sized d) (refused 1 1 d) _ s ∙ given-some (read_log d.log) g (zeroed 2 d) _ e ∙ need-false _ (zeroed 3 d) _ f

      module _ (f : all_formed 0 (pages d.store) ≡ true) where
        pub recover-newer : none_newer (at_end g).number (pages d.store) ≡ false → recover d ≡ zeroed 4 d
        unfolding recover
        recover-newer n =
            need-true (three_sized d) (refused 1 1 d) _ s ∙ given-some (read_log d.log) g (zeroed 2 d) _ e ∙ need-true _ (zeroed 3 d) _ f
            ∙ need-false _ (zeroed 4 d) _ n

        module _ (n : none_newer (at_end g).number (pages d.store) ≡ true) where
          pub recover-undone : repeat_all (g.top.number + 1) g.recs d.store ≡ none → recover d ≡ zeroed 5 d
          unfolding recover
          recover-undone r =
              need-true (three_sized d) (refused 1 1 d) _ s ∙ given-some (read_log d.log) g (zeroed 2 d) _ e ∙ need-true _ (zeroed 3 d) _ f
              ∙ need-true _ (zeroed 4 d) _ n ∙ given-none _ (zeroed 5 d) _ r

          pub recover-completes : (w : List ℕ) → repeat_all (g.top.number + 1) g.recs d.store ≡ some w → recover d ≡ completing d w
          unfolding recover completing
          recover-completes w r =
              need-true (three_sized d) (refused 1 1 d) _ s ∙ given-some (read_log d.log) g (zeroed 2 d) _ e ∙ need-true _ (zeroed 3 d) _ f
              ∙ need-true _ (zeroed 4 d) _ n ∙ given-some _ w (zeroed 5 d) _ r ∙ sym (given-some (read_log d.log) g (zeroed 2 d) _ e)

-- ---- refusals

-- zeros behind the end as found restore the log
pub restored : (l l' : List ℕ) (g : Log) (at : ℕ) → read_log l ≡ some g → at ≡ (at_end g).at → length l ≡ 8192 → length l' ≡ 8192 → take at l' ≡ take at l
    → put at (zeroes (8192 - at)) l' ≡ l
unfolding put
restored l l' g at e a n n' t =
    let f : ReadLog l g = read_log-facts l g e in
    let z : length (zeroes (8192 - at)) ≡ 8192 - at = length-zeroes (8192 - at) in
    let m : length l' ≤ at + length (zeroes (8192 - at)) = omega (arith, f.short) in
    let d : drop (at + length (zeroes (8192 - at))) l' ≡ [] = drop_of_length-le l' m in
    let w : l ≡ encode_log g ++ zeroes (8192 - at) = f.whole ∙ rw (n, a) in
    let h : take at l ≡ encode_log g = ap (take at) w ∙ take_at (encode_log g) (zeroes (8192 - at)) at (length-encode_log g f.sized ∙ sym a) in
    rw (d, append-nil (zeroes (8192 - at)), t, h) (sym w)

-- what a refusal returns
abbrev pub Says : (used forced reply v c u f : ℕ) → Type 0
Says used forced reply v c u f = (v ≡ reply) × (c ≡ 0) × (u ≡ used) × (f ≡ forced)

zeroed-as : (d : Lent) (reply v c u f : ℕ) (w : List ℕ) → w ≡ zeroes 16384 → Says d.used d.forced reply v c u f
    → left v (c ∷ []) (lent u f w d.store d.log d.bytes) ≡ zeroed reply d
unfolding zeroed zeroes
zeroed-as d reply v c u f w e s = rw (s.0, s.1, s.2, s.3, e)

-- ---- from the repeated pages on

stopped-is : (d : Lent) (s : State) (r : ℕ) → recovered d s (stopped r) ≡ zeroed r d
unfolding recovered
stopped-is d s r = refl

unwell-is : (d : Lent) (s s' : State) (w l : List ℕ) → well_formed (pages w) ≡ false → recovered d s (went s' w l) ≡ zeroed 8 d
unfolding recovered
unwell-is d s s' w l e = need-false _ (zeroed 8 d) _ e

well-is : (d : Lent) (s s' : State) (w l : List ℕ) → well_formed (pages w) ≡ true
    → recovered d s (went s' w l) ≡ left 0 ((s'.number - s.number) ∷ []) (lent s'.at s.at w d.store l d.bytes)
unfolding recovered
well-is d s s' w l e = need-true _ (zeroed 8 d) _ e

-- by the numbers of the walks
accepted-as : (st w l : List ℕ) (n m a b n' m' a' b' : ℕ) → n ≡ n' → m ≡ m' → a ≡ a' → b ≡ b'
    → left 0 ((n - m) ∷ []) (lent a b w st l []) ≡ left 0 ((n' - m') ∷ []) (lent a' b' w st l [])
accepted-as st w l n m a b n' m' a' b' p q x y = rw (p, q, x, y)

module _ (w l : List ℕ) (v : Walk) (k : Found w l v) where
  found : Was l v
  found = was l v k.walk k.ok

  pub found_inside : v.at ≤ 8192
  found_inside = omega (arith, at-is (at_end found.log) v found.shows, (read_log-facts l found.log found.read).short, k.long)

  module _ (used forced : ℕ) (w₁ st : List ℕ) where
    abbrev d : Lent
    d = lent used forced w₁ st l []

    completing-is : completing d w ≡ recovered d (at_end found.log) (finishing w l)
    unfolding completing
    completing-is =
        given-some (read_log l) found.log (zeroed 2 d) _ found.read
        ∙ ap (recovered d (at_end found.log)) (sym (finishing-is w l found.log found.read))

    module _ (reply : ℕ) (v' : Walk) (w' l' : List ℕ) (f : Finishes (finishing w l) l v reply v' w' l') where
      -- the log as it was found
      module _ (w'' l'' : List ℕ) (long : length l' ≡ length l) (e : l'' ≡ put v.at (zeroes (8192 - v.at)) l') (b : w'' ≡ zeroes 16384) where
        back : l'' ≡ l
        back = e ∙ restored l l' found.log v.at found.read (at-is (at_end found.log) v found.shows) k.long (long ∙ k.long) f.front

        refuses : (r a c u g : ℕ) → completing d w ≡ zeroed r d → Says used forced r a c u g → left a (c ∷ []) (lent u g w'' st l'' []) ≡ completing d w
        refuses r a c u g q s = rw back (zeroed-as d r a c u g w'' b s ∙ sym q)

        pub complete-stops : (a c u g : ℕ) → (reply ≡ 0 → ⊥) → Says used forced reply a c u g → left a (c ∷ []) (lent u g w'' st l'' []) ≡ completing d w
        complete-stops a c u g n s =
            refuses reply a c u g (completing-is ∙ ap (recovered d (at_end found.log)) (f.stops n) ∙ stopped-is d (at_end found.log) reply) s

        pub complete-unwell : (a c u g : ℕ) → reply ≡ 0 → well_formed (pages w') ≡ false → Says used forced 8 a c u g
            → left a (c ∷ []) (lent u g w'' st l'' []) ≡ completing d w
        complete-unwell a c u g n t s =
            let x : Ended (finishing w l) v v' w' l' = f.done n in
            refuses 8 a c u g (completing-is ∙ ap (recovered d (at_end found.log)) x.is ∙ unwell-is d (at_end found.log) x.state w' l' t) s

      pub complete-accepts : (a c u g : ℕ) → reply ≡ 0 → well_formed (pages w') ≡ true
          → (a ≡ 0) × (c ≡ v'.number.0 - v.number.0) × (u ≡ v'.at) × (g ≡ v.at) → left a (c ∷ []) (lent u g w' st l' []) ≡ completing d w
      complete-accepts a c u g n t s =
          let x : Ended (finishing w l) v v' w' l' = f.done n in
          rw (s.0, s.1, s.2, s.3)
          (accepted-as st w' l' _ _ _ _ _ _ _ _ (number_is x.state v' x.shows) (number_is (at_end found.log) v found.shows) (at-is x.state v' x.shows)
          (at-is (at_end found.log) v found.shows)
          ∙ sym (completing-is ∙ ap (recovered d (at_end found.log)) x.is ∙ well-is d (at_end found.log) x.state w' l' t))

-- ---- the answers of the whole

-- a log that one pass has not read
unread-by : (l : List ℕ) (o : Option Log) → read_log l ≡ o → (scanned 0 l).walk.ok ≡ false → read_log l ≡ none
unread-by l none e h = e
unread-by l (some g) e h = absurd (false≢true (sym h ∙ ap (λ (x : Walk). x.ok) (scanned-walk 0 l g e) ∙ shown_ok (at_end g)))

none-repeats : (l v : List ℕ) (g : Log) → read_log l ≡ some g → there (repeated l v) ≡ false → repeat_all (g.top.number + 1) g.recs v ≡ none
unfolding repeated
none-repeats l v g e h =
    by-repeat (repeat_all (g.top.number + 1) g.recs v) (sym (ap there (bind-intro (read_log l) _ g e)) ∙ h)
  where
    by-repeat : (o : Option (List ℕ)) → there o ≡ false → o ≡ none
    by-repeat none q = refl
    by-repeat (some x) q = absurd (false≢true (sym (unfold there in q)))

some-repeats : (l v v' : List ℕ) (g : Log) → read_log l ≡ some g → repeated l v ≡ some v' → repeat_all (g.top.number + 1) g.recs v ≡ some v'
unfolding repeated
some-repeats l v v' g e h = sym (bind-intro (read_log l) _ g e) ∙ h

-- what a refusal past test 1 returns and leaves
abbrev Blanked : (w : List ℕ) (used forced reply v c u f : ℕ) → Type 0
Blanked w used forced reply v c u f = (w ≡ zeroes 16384) × (v ≡ reply) × (c ≡ 0) × (u ≡ used) × (f ≡ forced)

-- the tests that are passed where the log is repeated
pub record Tested (work store log : List ℕ) (x : Scan) : Type 0 where
  pub work-sized : length work ≡ 16384
  pub store-sized : length store ≡ 16384
  pub log-sized : length log ≡ 8192
  pub scans : x ≡ scanned 0 log
  pub ok : not x.walk.ok ≡ false
  pub formed-all : all_formed 0 (pages store) ≡ true
  pub newer : none_newer x.walk.number.0 (pages store) ≡ true

module _ (used forced : ℕ) (work store log : List ℕ) where
  abbrev given : Lent
  given = lent used forced work store log []

  module _ (v c u f : ℕ) where
    abbrev got : (w : List ℕ) → Left
    got w = left v (c ∷ []) (lent u f w store log [])

    -- reply 1 leaves all
    unsized : recover given ≡ refused 1 1 given → Says used forced 1 v c u f → got work ≡ recover given
    unfolding refused zeroes
    unsized e s = rw (s.0, s.1, s.2, s.3) (sym e)

    pub recover-no-work! : Says used forced 1 v c u f → (length work ≡ 16384 → ⊥) → got work ≡ recover given
    recover-no-work! s a = unsized (recover-unsized given (three-no-work given a)) s

    pub recover-no-store! : Says used forced 1 v c u f → (length store ≡ 16384 → ⊥) → length work ≡ 16384 → got work ≡ recover given
    recover-no-store! s b a = unsized (recover-unsized given (three-no-store given a b)) s

    pub recover-no-log! : Says used forced 1 v c u f → (length log ≡ 8192 → ⊥) → length work ≡ 16384 → length store ≡ 16384 → got work ≡ recover given
    recover-no-log! s h a b = unsized (recover-unsized given (three-no-log given a b h)) s

    -- the other refusals leave zeros
    blanks : (r : ℕ) (w : List ℕ) → recover given ≡ zeroed r given → Blanked w used forced r v c u f → got w ≡ recover given
    blanks r w q b = zeroed-as given r v c u f w b.0 (b.1, b.2, b.3, b.4) ∙ sym q

  module _ (a : length work ≡ 16384) (b : length store ≡ 16384) (h : length log ≡ 8192) (x : Scan) (e : x ≡ scanned 0 log) where
    sized : three_sized given ≡ true
    sized = three-sized given a b h

    walked : x.walk ≡ (scanned 0 log).walk
    walked = ap (λ (y : Scan). y.walk) e

    pub recover-broken! : (w : List ℕ) (v c u f : ℕ) → Blanked w used forced 2 v c u f → not x.walk.ok ≡ true → got v c u f w ≡ recover given
    recover-broken! w v c u f l k =
        blanks v c u f 2 w
        (recover-unread given sized (unread-by log (read_log log) refl (sym (ap (λ (y : Walk). y.ok) walked) ∙ not-true _ k))) l

    module _ (k : not x.walk.ok ≡ false) where
      read : Was log x.walk
      read = was log x.walk walked (not-false _ k)

      last-is : none_newer x.walk.number.0 (pages store) ≡ none_newer (at_end read.log).number (pages store)
      last-is = ap (λ (n : ℕ). none_newer n (pages store)) (number_is (at_end read.log) x.walk read.shows)

      pub recover-reads! : there (read_log log) ≡ true
      recover-reads! = there-some (read_log log) read.log read.read

      module _ (y : Bool) (ye : y ≡ all_formed 0 (pages store)) where
        pub recover-form! : (w : List ℕ) (v c u f : ℕ) → Blanked w used forced 3 v c u f → not y ≡ true → got v c u f w ≡ recover given
        recover-form! w v c u f l i = blanks v c u f 3 w (recover-unformed given sized read.log read.read (sym ye ∙ not-true y i)) l

        pub recover-ahead! : (z : Bool) → z ≡ none_newer x.walk.number.0 (pages store) → not z ≡ true → not y ≡ false
            → (w : List ℕ) (v c u f : ℕ) → Blanked w used forced 4 v c u f → got v c u f w ≡ recover given
        recover-ahead! z ze n i w v c u f l =
            blanks v c u f 4 w
            (recover-newer given sized read.log read.read (sym ye ∙ not-false y i) (sym last-is ∙ sym ze ∙ not-true z n)) l

  module _ (x : Scan) (t : Tested work store log x) (w₁ : List ℕ) (copied : w₁ ≡ put 0 store work) (r : Bool) (w₂ : List ℕ) (q : Repeated log w₁ r w₂) where
    start : w₁ ≡ store
    start = copied ∙ put_whole store work (t.store-sized ∙ sym t.work-sized)

    whole : three_sized given ≡ true
    whole = sized t.work-sized t.store-sized t.log-sized x t.scans

    abbrev found-log : Was log x.walk
    found-log = read t.work-sized t.store-sized t.log-sized x t.scans t.ok

    none-newer : none_newer (at_end found-log.log).number (pages store) ≡ true
    none-newer = sym (last-is t.work-sized t.store-sized t.log-sized x t.scans t.ok) ∙ t.newer

    pub recover-stuck! : (w : List ℕ) (v c u f : ℕ) → Blanked w used forced 5 v c u f → not r ≡ true → got v c u f w ≡ recover given
    recover-stuck! w v c u f l m =
        let undone = none-repeats log store found-log.log found-log.read
        (sym (ap (λ (y : List ℕ). there (repeated log y)) start) ∙ sym q.said ∙ not-true _ m) in
        blanks v c u f 5 w (recover-undone given whole found-log.log found-log.read t.formed-all none-newer undone) l

    module _ (m : not r ≡ false) where
      again : repeat_all (found-log.log.top.number + 1) found-log.log.recs store ≡ some w₂
      again = some-repeats log store w₂ found-log.log found-log.read (sym (ap (repeated log) start) ∙ q.left (not-false _ m))

      pub recover-found : Bytes log → Found w₂ log x.walk
      recover-found y =
          let good = (read_log-facts log found-log.log found-log.read).good y in
          record {
            form = log-form found-log.log store w₂ good (record { whole = t.store-sized; forms = t.formed-all }) again;
            long = t.log-sized;
            walk = ap (λ (y : Scan). y.walk) t.scans;
            ok = not-false _ t.ok;
          }

      pub recover-goes : (y : Left) → y ≡ completing given w₂ → y ≡ recover given
      recover-goes y g = g ∙ sym (recover-completes given whole found-log.log found-log.read t.formed-all none-newer w₂ again)
