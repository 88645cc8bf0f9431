use Rattle.std.proofs.Common.{◌≡◌, ◌++◌, ◌∙◌, chars, ap, sym, subst, IsUtf8, OnOk}
use Rattle.tendril_bench.specs.Decoded.{spelled}
use Rattle.tendril_bench.proofs.Pushed.{pushed}
use Rattle.tendril_bench.proofs.resume.push_completed.Goals as goal

pub returns-in-Ok : goal.returns-in-Ok
returns-in-Ok c =
    let text = c.args.text.now in
    let all = pushed c.push_slice.result text c.push_slice.new.self c.as_str.result.now
    (subst IsUtf8 c.as_str-is_utf8.ensures.value c.as_str-is_utf8.utf8) c.push_slice.ensures in
    subst (λ l. OnOk c.push_slice.result (chars c.push_slice.new.self.bytes ≡ chars text.bytes ++ l))
    (ap chars c.as_str.ensures ∙ sym (ap spelled c.in-Ok.is)) all
