use Rattle.std.proofs.Common.{◌+◌, ◌∙◌, ℕ, arith}
use Rattle.tendril_fmt.proofs.Seams.{joined_pair, joined_nothing, ends_long, begins_long, none_meet_left}
use Rattle.tendril_fmt.proofs.Seams.{none_meet_right}
use Rattle.tendril_fmt.proofs.Wtf8Joins.{NoneMeet, join_surrogates, join_apart_bytes}
use Rattle.tendril_fmt.proofs.fmt.wtf8.WTF8Format.fixup.Goals as goal
use Rattle.tendril_fmt.proofs.fmt.wtf8.WTF8Format.fixup.Goals.{in_default-via-in-Some+in_default}
use Rattle.tendril_fmt.proofs.fmt.wtf8.WTF8Format.fixup.Goals.{in_default-via-in_default}

pub returns-in-Some-Some-clause-joins : goal.returns-in-Some-Some-clause-joins
returns-in-Some-Some-clause-joins c =
    let l = c.args.left.now in
    let r = c.args.right.now in
    let lead = c.in-Some-Some.ensures in
    let trail = c.in-Some-Some.ensures' in
    let u : ℕ = 0xD800 + c.in-Some-Some.lead in
    let v : ℕ = 0xDC00 + c.in-Some-Some.trail in
    let small = lead.0 in
    let little = trail.0 in
    let f = c.pair_fixup.ensures in
    join_surrogates l r lead.1.0 trail.1.0 u v c.requires.left_valid c.requires.right_valid (omega arith)
    (omega arith) (omega arith) (omega arith) lead.1.1 trail.1.1
    ∙ joined_pair c.pair_fixup.result l r lead.1.0 trail.1.0 u v (omega arith) (omega arith) (omega arith)
    (omega arith) f.drop_left f.drop_right f.insert_len f.insert_bytes lead.1.1 trail.1.1

pub returns-in-Some-Some-clause-drops_left : goal.returns-in-Some-Some-clause-drops_left
returns-in-Some-Some-clause-drops_left c =
    let lead = c.in-Some-Some.ensures in
    let small = lead.0 in
    omega (
      arith,
      c.pair_fixup.ensures.drop_left,
      ends_long c.args.left.now (0xD800 + c.in-Some-Some.lead)
          (omega arith) (omega arith) lead.1,
    )

pub returns-in-Some-Some-clause-drops_right : goal.returns-in-Some-Some-clause-drops_right
returns-in-Some-Some-clause-drops_right c =
    let trail = c.in-Some-Some.ensures' in
    let little = trail.0 in
    omega (
      arith,
      c.pair_fixup.ensures.drop_right,
      begins_long c.args.right.now (0xDC00 + c.in-Some-Some.trail)
          (omega arith) (omega arith) trail.1,
    )

pub returns-in_default-clause-joins : goal.returns-in_default-clause-joins
returns-in_default-clause-joins c =
    let l = c.args.left.now in
    let r = c.args.right.now in
    let none : NoneMeet l r = elim c.in_default.branch [
      | in_default-via-in-Some+in_default w ↦ none_meet_right l r w.in_default.ensures'
      | in_default-via-in_default w ↦ none_meet_left l r (rw w.in_default.is-0 at c.lead_at_end.ensures)
    ] in
    let f = c.default.ensures in
    join_apart_bytes l r c.requires.left_valid c.requires.right_valid none
    ∙ joined_nothing c.default.result l r f.0 f.1.0 f.1.1.0
