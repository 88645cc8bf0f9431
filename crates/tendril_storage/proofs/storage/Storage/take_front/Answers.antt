use Rattle.std.proofs.Common.{◌≡◌, ◌+◌, drop, ap, arith, ◌∙◌}
use Rattle.tendril_storage.proofs.Partings.{few_parts}
use Rattle.tendril_storage.proofs.storage.Storage.take_front.Goals as goal

pub returns-in-Some : goal.returns-in-Some
returns-in-Some g c =
    let old = c.args.self.now in
    let cut = c.in-Some.ensures in
    let alone : c.args.count + 0 ≡ c.args.count = omega arith in (
      tt,
      record {
        front_bytes = cut.front_bytes;
        rest_bytes = cut.rest_bytes ∙ ap (λ n. drop n old.bytes) alone;
        copied = few_parts c.args.count 0 old c.in-Some.front c.take_few.new.self cut;
      },
    )
