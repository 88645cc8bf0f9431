use Rattle.std.proofs.Common.{◌≡◌, ◌++◌, OnOk, chars, map, subst}
use Rattle.tendril_transcode.proofs.JoiningSinks.{pushed}
use Rattle.tendril_lossy.specs.Lossy.{Char, characters}
use Rattle.tendril_transcode.proofs.joined.JoinedTendrilSinkStrTendril.process.Goals as goal

pub returns-clause-ok : goal.returns-clause-ok
returns-clause-ok c =
    let old = c.args.self.now in
    let new = c.push.new.self in
    let all = pushed c.push.result old new c.as_str.result.now c.as_bytes-utf8.ensures.utf8 c.push.ensures.ok in
    subst (λ m. OnOk c.push.result (chars new ≡ chars old ++ characters (map Char (chars m)))) c.as_str.ensures.value
    all
