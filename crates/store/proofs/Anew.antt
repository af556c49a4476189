-- A log begun anew: zeros, then the check record over them. Assumes nothing.
use Prim.Native.Nat.{ℕ}
use mathlib.Core.Path.{◌≡◌, sym, ap, ◌∙◌}
use mathlib.Core.List.{List}
use lib.ListN.{length}
use Rattle.field.specs.Bytes.{put, zeroes}
use Rattle.field.proofs.Part.{put_whole}
use Rattle.field.proofs.Zero.{length-zeroes}
use Rattle.logs.specs.Record.{Check, encode_check}
use Rattle.logs.proofs.Append.{put-zeroes}
use Rattle.store.specs.Calls.{new_log}

pub new-log : (log mid : List ℕ) (c : Check) → length log ≡ 8192 → mid ≡ put 0 (zeroes 8192) log → put 0 (encode_check c) mid ≡ new_log c
unfolding new_log
new-log log mid c h e =
    ap (put 0 (encode_check c)) (e ∙ put_whole (zeroes 8192) log (length-zeroes 8192 ∙ sym h)) ∙ put-zeroes (encode_check c) 8192

pub new-log! : (log mid end : List ℕ) (c : Check) → end ≡ put 0 (encode_check c) mid → mid ≡ put 0 (zeroes 8192) log → length log ≡ 8192 → end ≡ new_log c
new-log! log mid end c a b h = a ∙ new-log log mid c h b
