use Rattle.std.proofs.Common.{get_or, ◌≡◌, length, arith}
use Rattle.std.proofs.lemmas.Bool.Decides.{nat_tests}
use Rattle.tendril_lines.proofs.Digits.{shape_of, as_option}
use Rattle.tendril_lines.proofs.numbers.plain.Goals as goal
use Rattle.tendril_lines.proofs.numbers.plain.Goals.{then-is_empty-via-then-is_empty}
use Rattle.tendril_lines.proofs.numbers.plain.Goals.{then-is_empty-via-else-is_empty+then-word-eq43}
use Rattle.tendril_lines.proofs.numbers.plain.Goals.{then-is_empty-via-else-is_empty+else-word-eq43+then-word-gt1}
use Rattle.tendril_lines.proofs.numbers.plain.Goals.{then-word-eq48, else-word-eq48}

pub returns-then-is_empty : goal.returns-then-is_empty
returns-then-is_empty c n h = let s = shape_of n c.args.word.now h in elim c.then-is_empty.branch [
  | then-is_empty-via-then-is_empty w ↦ grind (arith, nat_tests, s.nonempty)
  | then-is_empty-via-else-is_empty+then-word-eq43 w ↦ s.first (grind (arith, nat_tests))
  | then-is_empty-via-else-is_empty+else-word-eq43+then-word-gt1 w ↦ elim w.if-word-eq48.branch [
    | then-word-eq48 w' ↦ grind (arith, nat_tests, s.zero)
    | else-word-eq48 w' ↦ grind (arith, nat_tests)
  ]
]

pub returns : goal.returns
returns c =
    let zero : get_or c.args.word.now 0 0 ≡ 48 → length c.args.word.now ≡ 1 = elim c.if-word-eq48.branch [
      | then-word-eq48 w ↦ λ e. grind (arith, nat_tests)
      | else-word-eq48 w ↦ λ e. grind (arith, nat_tests)
    ] in
    rw c.ok.ensures.value (as_option _ _ _ _ c.from_utf8.result
    (λ text h. (h.0, (grind (arith, nat_tests), zero)))
    (λ e h n is. h.0 (shape_of n c.args.word.now is).utf8)
    c.from_utf8.ensures.cases)
