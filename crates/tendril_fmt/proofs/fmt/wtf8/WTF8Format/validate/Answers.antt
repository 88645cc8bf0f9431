use Rattle.std.proofs.Common.{◌≡◌, ◌≢◌, ◌⊎◌, ◌∙◌, ◌<◌, ℕ, length, false, inl, inr, sym, arith, true≢false}
use Rattle.tendril_fmt.specs.declared.futf.Meaning.TheVariants.{TrailSurrogate}
use Rattle.tendril_fmt.proofs.Rests.{rest_start, rest_none, after_shorter, step_lead, step_other, step_bad}
use Rattle.tendril_fmt.proofs.fmt.wtf8.WTF8Format.validate.Goals as goal
use Rattle.tendril_fmt.proofs.fmt.wtf8.WTF8Format.validate.Goals.{in-TrailSurrogate, in_default-matches}
use Rattle.tendril_fmt.proofs.fmt.wtf8.WTF8Format.validate.Goals.{else-after_lead-via-then-after_lead+else-matches}
use Rattle.tendril_fmt.proofs.fmt.wtf8.WTF8Format.validate.Goals.{else-after_lead-via-else-after_lead}

pub loop-rest-init : goal.loop-rest-init
loop-rest-init c = rest_start c.args.bytes.now

pub returns-in_default : goal.returns-in_default
returns-in_default c =
    let some : 0 < length c.loop-rest.rest.now = grind (arith, c.loop-rest-test.ensures) in (
      λ t. absurd (true≢false (sym t)),
      λ w. absurd
          (rest_none c.loop-rest.after_lead c.loop-rest.rest.now some c.in_default.ensures (c.loop-rest.invariant.0 w)),
    )

pub returns-then-matches : goal.returns-then-matches
returns-then-matches c = (
  λ t. absurd (true≢false (sym t)),
  λ w. elim c.match-matches.branch [
    | in-TrailSurrogate k ↦ absurd
        (step_bad c.loop-rest.after_lead c.loop-rest.rest.now c.in-Some.after.now c.in-Some.meaning
        k.in-TrailSurrogate.field-0 c.in-Some.ensures c.if-after_lead.true k.in-TrailSurrogate.is
        (c.loop-rest.invariant.0 w))
    | in_default-matches k ↦ absurd (true≢false (sym c.if-matches.true ∙ k.matches-is))
  ],
)

pub loop-rest-smaller-in-LeadSurrogate : goal.loop-rest-smaller-in-LeadSurrogate
loop-rest-smaller-in-LeadSurrogate c =
    after_shorter c.loop-rest.rest.now c.in-Some.after.now c.in-Some.meaning c.in-Some.ensures

pub loop-rest-preserved-in-LeadSurrogate : goal.loop-rest-preserved-in-LeadSurrogate
loop-rest-preserved-in-LeadSurrogate c =
    let s = step_lead c.loop-rest.after_lead c.loop-rest.rest.now c.in-Some.after.now c.in-Some.meaning
    c.in-LeadSurrogate.field-0 c.in-Some.ensures c.in-LeadSurrogate.is in
    let inv = c.loop-rest.invariant in
    (λ w. s.0 (inv.0 w), λ r. inv.1 (s.1 r))

pub loop-rest-smaller : goal.loop-rest-smaller
loop-rest-smaller c = after_shorter c.loop-rest.rest.now c.in-Some.after.now c.in-Some.meaning c.in-Some.ensures

pub loop-rest-preserved : goal.loop-rest-preserved
loop-rest-preserved c =
    let free : (c.loop-rest.after_lead ≡ false) ⊎ ((i : ℕ) → c.in-Some.meaning ≢ TrailSurrogate i) =
    elim c.else-after_lead.branch [
      | else-after_lead-via-then-after_lead+else-matches w ↦ elim w.match-matches.branch [
        | in-TrailSurrogate k ↦ absurd (true≢false (sym k.matches-is ∙ w.if-matches.false))
        | in_default-matches k ↦ inr k.in_default-matches.not-TrailSurrogate
      ]
      | else-after_lead-via-else-after_lead w ↦ inl w.if-after_lead.false
    ] in
    let s = step_other c.loop-rest.after_lead c.loop-rest.rest.now c.in-Some.after.now c.in-Some.meaning
    c.in-Some.ensures c.in_default-matches-2.not-LeadSurrogate free in
    let inv = c.loop-rest.invariant in
    (λ w. s.0 (inv.0 w), λ r. inv.1 (s.1 r))
