use Rattle.std.proofs.Common.{◌++◌, ◌∙◌, IsUtf8, ap, subst, sym}
use Rattle.std.proofs.lemmas.Str.{IsUtf8-append}
use Rattle.tendril_transcode.proofs.joined.Joined.push.Goals as goal

pub invariant_of-self-2 : goal.invariant_of-self-2
invariant_of-self-2 c =
    let old = c.self.inside.text.items in
    subst IsUtf8 (ap (λ b. old ++ b) (sym c.as_bytes.ensures.value) ∙ sym c.in_ok-push_bytes.ensures.ok)
    (IsUtf8-append old c.args.text.now c.self.invariant c.utf8.text)
