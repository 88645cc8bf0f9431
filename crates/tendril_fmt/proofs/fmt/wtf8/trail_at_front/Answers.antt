use Rattle.std.proofs.Common.{arith, subst, ⊎_elim}
use Rattle.tendril_fmt.specs.declared.futf.Meaning.TheVariants.{TrailSurrogate}
use Rattle.tendril_fmt.specs.CodePoints.{EncodeNone, Encode}
use Rattle.tendril_fmt.proofs.Seams.{no_trail_short, no_trail_encoded, no_trail_other, trail_found}
use Rattle.tendril_fmt.proofs.fmt.wtf8.trail_at_front.Goals as goal

pub returns-in_err-get : goal.returns-in_err-get
returns-in_err-get c =
    let short = ⊎_elim (λ h. omega arith) (λ h. h) c.in_err-get.ensures.lookup.0 in
    rw c.from_residual.ensures (no_trail_short c.args.bytes.now short)

pub returns-in_err-index : goal.returns-in_err-index
returns-in_err-index c =
    let three = c.in_ok-get.ensures.lookup.0.2 in
    rw c.from_residual-in_err-index.ensures
    (no_trail_encoded c.args.bytes.now (subst EncodeNone three c.in_err-index.ensures))

pub returns-in-TrailSurrogate : goal.returns-in-TrailSurrogate
returns-in-TrailSurrogate c =
    let three = c.in_ok-get.ensures.lookup.0.2 in
    let i = c.in-TrailSurrogate.index in
    let is = subst (λ m. Encode c.in_ok-get.field-0.now m) c.in-TrailSurrogate.is c.in_ok-index.ensures in
    trail_found c.args.bytes.now i (subst (λ l. Encode l (TrailSurrogate i)) three is)

pub returns-in_default : goal.returns-in_default
returns-in_default c =
    let three = c.in_ok-get.ensures.lookup.0.2 in
    let m = c.in_ok-index.field-0 in
    no_trail_other c.args.bytes.now m (subst (λ l. Encode l m) three c.in_ok-index.ensures)
    c.in_default.not-TrailSurrogate
