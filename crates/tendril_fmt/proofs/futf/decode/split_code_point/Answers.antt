use Rattle.std.proofs.Common.{◌≡◌, ◌∙◌, ℕ, List, slice_index, arith, sym, subst, ap}
use Rattle.tendril_fmt.specs.CodePoints.{sequence_len, EncodeNone, Encode, SplitsIntoNone, SplitsInto}
use Rattle.tendril_fmt.proofs.Fronts.{none_in_empty, none_in_short, none_in_front, begin_front}
use Rattle.tendril_fmt.proofs.futf.decode.split_code_point.Goals as goal

pub returns-in_err-first : goal.returns-in_err-first
returns-in_err-first c =
    let none : SplitsIntoNone c.args.bytes.now = none_in_empty _ (omega (arith, c.in_err-first.ensures.item.3)) in
    rw c.from_residual.ensures none

pub returns-then-bytes-len : goal.returns-then-bytes-len
returns-then-bytes-len c =
    let first : c.in_ok-first.field-0.now ≡ slice_index c.args.bytes.now 0 =
    c.in_ok-first.ensures.item.4 (omega arith) 0 in
    let len : c.sequence_len_of-len.result ≡ sequence_len (slice_index c.args.bytes.now 0) =
    c.sequence_len_of-len.ensures ∙ ap sequence_len first in
    none_in_short c.args.bytes.now (omega (arith, len, c.if-bytes-len.true))

pub returns-in_err-decode : goal.returns-in_err-decode
returns-in_err-decode c =
    let first : c.in_ok-first.field-0.now ≡ slice_index c.args.bytes.now 0 =
    c.in_ok-first.ensures.item.4 (omega arith) 0 in
    let len : c.sequence_len_of-len.result ≡ sequence_len (slice_index c.args.bytes.now 0) =
    c.sequence_len_of-len.ensures ∙ ap sequence_len first in
    let none : SplitsIntoNone c.args.bytes.now = none_in_front c.args.bytes.now c.sequence_len_of-len.result len
    (subst EncodeNone c.split_at.ensures.front c.in_err-decode.ensures) in
    rw c.from_residual-in_err-decode.ensures none

pub returns : goal.returns
returns c =
    let m = c.in_ok-decode.field-0 in
    let bytes = c.args.bytes.now in
    let k = begin_front bytes c.sequence_len_of-len.result m
    (subst (λ l. Encode l m) c.split_at.ensures.front c.in_ok-decode.ensures) in
    subst (λ (l : List ℕ). SplitsInto bytes m l) (sym c.split_at.ensures.back) k
