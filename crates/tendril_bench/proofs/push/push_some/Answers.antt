use Rattle.std.proofs.Common.{◌≡◌, ◌++◌, chars, ap, sym, subst, ◌∙◌, IsUtf8, append-nil, OnOk}
use Rattle.std.proofs.lemmas.Str.{chars-nil}
use Rattle.tendril.specs.Decoding.{bytes_of}
use Rattle.tendril_bench.proofs.Pushed.{pushed}
use Rattle.tendril_bench.proofs.push.push_some.Goals as goal

pub returns-in-Some-clause-ok : goal.returns-in-Some-clause-ok
returns-in-Some-clause-ok c =
    let text = c.args.text.now in
    let all = pushed c.push_slice.result text c.push_slice.new.self c.as_str.result.now
    (subst IsUtf8 c.as_str-is_utf8.ensures.value c.as_str-is_utf8.utf8) c.push_slice.ensures in
    subst (λ m. OnOk c.push_slice.result (chars c.push_slice.new.self.bytes ≡ chars text.bytes ++ chars m))
    (c.as_str.ensures.value ∙ sym (ap bytes_of c.in-Some.is)) all

pub returns-in-None-clause-ok : goal.returns-in-None-clause-ok
returns-in-None-clause-ok c = sym
    (ap (λ l. chars c.args.text.now.bytes ++ l) (ap (λ o. chars (bytes_of o)) c.in-None.is ∙ chars-nil)
    ∙ append-nil (chars c.args.text.now.bytes))
