use Rattle.std.proofs.Common.{◌≡◌, ◌+◌, ◌<◌, drop, length, arith, subst}
use Rattle.tendril_fmt.specs.CodePoints.{EncodeNone, Encode}
use Rattle.tendril_fmt.proofs.Seams.{no_lead_short, no_lead_encoded, no_lead_other, lead_found, rest_slice}
use Rattle.tendril_fmt.proofs.fmt.wtf8.lead_at_end.Goals as goal

pub returns-in_err-start : goal.returns-in_err-start
returns-in_err-start c =
    let e = c.in_err-start.ensures in
    let short : length c.args.bytes.now < 3 = omega (arith, e) in
    rw c.from_residual.ensures (no_lead_short c.args.bytes.now short)

pub returns-in_err-index : goal.returns-in_err-index
returns-in_err-index c =
    let e = c.in_ok-start.ensures in
    let long : c.in_ok-start.start + 3 ≡ length c.args.bytes.now = omega (arith, e) in
    rw c.from_residual-in_err-index.ensures
    (no_lead_encoded c.args.bytes.now c.in_ok-start.start long
    (subst EncodeNone (rest_slice c.args.bytes.now c.in_ok-start.start) c.in_err-index.ensures))

pub returns-in-LeadSurrogate : goal.returns-in-LeadSurrogate
returns-in-LeadSurrogate c =
    let start = c.in_ok-start.start in
    lead_found c.args.bytes.now start c.in-LeadSurrogate.index
    (subst (λ m. Encode (drop start c.args.bytes.now) m) c.in-LeadSurrogate.is
    (subst (λ l. Encode l c.in_ok-index.field-0) (rest_slice c.args.bytes.now start) c.in_ok-index.ensures))

pub returns-in_default : goal.returns-in_default
returns-in_default c =
    let e = c.in_ok-start.ensures in
    let long : c.in_ok-start.start + 3 ≡ length c.args.bytes.now = omega (arith, e) in
    no_lead_other c.args.bytes.now c.in_ok-start.start c.in_ok-index.field-0 long
    (subst (λ l. Encode l c.in_ok-index.field-0) (rest_slice c.args.bytes.now c.in_ok-start.start)
    c.in_ok-index.ensures) c.in_default.not-LeadSurrogate
