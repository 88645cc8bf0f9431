use Rattle.std.proofs.Common.{◌≡◌, ℕ, ◌-◌, List, [], ◌∷◌, ◌++◌, length, take, drop, sym, ap, subst, ◌∙◌, length-drop}
use Rattle.std.specs.List.{AllByRecursion}
use Rattle.std.proofs.Math.Seq.{take-length}
use Rattle.tendril.specs.Fmt.Chars.{IsFirstChar}
use Rattle.tendril.specs.Proofs.Splits.{IsSplitAfter-step}
use Rattle.tendril_bench.specs.Digits.{IsDigit}
use Rattle.tendril_bench.proofs.callers.leading_digits.Goals as goal

one_more : (cs : List ℕ) (c : ℕ) → AllByRecursion IsDigit cs → IsDigit c → AllByRecursion IsDigit (cs ++ c ∷ [])
one_more [] c h d = (d, tt)
one_more (b ∷ cs) c h d = (h.0, one_more cs c h.1 d)

-- `&text[n..]`
slice_from : (text : List ℕ) (n : ℕ) → take (length text - n) (drop n text) ≡ drop n text
slice_from text n = ap (λ k. take k (drop n text)) (sym (length-drop n text)) ∙ take-length (drop n text)

pub loop-character-preserved : goal.loop-character-preserved
loop-character-preserved g c =
    let now = c.loop-character.invariant in
    let f = g.F.CharFormat in
    let character = c.in-Some.character in
    let first = subst (λ rest. IsFirstChar g.F.Format.valid f.chars f.encodes f.encoding rest character c.in-Some.len)
    (slice_from c.args.text.now c.loop-character.at) c.in-Some.ensures.first in (
      now.0 ++ character ∷ [],
      IsSplitAfter-step g.F.Format.valid f.chars f.encodes f.encoding c.args.text.now now.0 c.loop-character.at
          character c.in-Some.len now.1 first,
      one_more now.0 character now.2 c.if-not-is_ascii_digit.ensures.cases,
    )
