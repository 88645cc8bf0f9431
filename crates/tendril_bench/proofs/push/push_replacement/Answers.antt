use Rattle.std.proofs.Common.{◌≡◌, ◌++◌, chars, subst, IsUtf8, OnOk}
use Rattle.std.specs.Prelude.{encode_utf8}
use Rattle.tendril_bench.proofs.Pushed.{pushed, replacement}
use Rattle.tendril_bench.proofs.push.push_replacement.Goals as goal

pub returns-clause-ok : goal.returns-clause-ok
returns-clause-ok c =
    let text = c.args.text.now in
    let all = pushed c.push_char.result text c.push_char.new.self (encode_utf8 0xFFFD)
    (subst IsUtf8 c.as_str-is_utf8.ensures.value c.as_str-is_utf8.utf8) c.push_char.ensures in
    subst (λ m. OnOk c.push_char.result (chars c.push_char.new.self.bytes ≡ chars text.bytes ++ m)) replacement all
