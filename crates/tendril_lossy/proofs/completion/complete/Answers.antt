use Rattle.std.proofs.Common.{ℕ, ◌≤◌, List, ◌++◌, length, take, arith, sym, subst, ◌∙◌, ap, rules, length-take-le}
use Rattle.std.proofs.lemmas.Bool.Decides.{nat_tests}
use Rattle.tendril_lossy.proofs.Completions.{IsFirstPart, open_len, completes, completes_nothing, broken_within, breaks}
use Rattle.tendril_lossy.proofs.Completions.{opens}
use Rattle.tendril_lossy.proofs.completion.complete.Goals as goal

pub fill-filled-requires : goal.fill-filled-requires
fill-filled-requires c = omega (arith, open_len c.args.kept.now c.requires)

pub returns-then-not-is_empty : goal.returns-then-not-is_empty
returns-then-not-is_empty c =
    let kept : List ℕ = c.args.kept.now in
    let input : List ℕ = c.args.input.now in
    let is = c.as_slice-bytes.ensures.bytes ∙ c.fill-filled.ensures in
    let part = subst (λ bs. IsFirstPart bs c.first_part-ending.result.0.now c.first_part-ending.result.1) is
    (record {
      front_is = c.first_part-ending.ensures.front;
      text = search rules;
      items =
          c.first_part-ending.ensures.items;
    }) in
    rw c.new.ensures (completes kept input c.requires _ _ part (grind (arith, nat_tests)))

pub slice_bounds-new-end : goal.slice_bounds-new-end
slice_bounds-new-end c =
    let kept : List ℕ = c.args.kept.now in
    let input : List ℕ = c.args.input.now in
    let is = c.as_slice-bytes.ensures.bytes ∙ c.fill-filled.ensures in
    let part = subst (λ bs. IsFirstPart bs c.first_part-ending.result.0.now c.first_part-ending.result.1) is
    (record {
      front_is = c.first_part-ending.ensures.front;
      text = search rules;
      items =
          c.first_part-ending.ensures.items;
    }) in
    let within = broken_within kept input c.requires _ c.in-Broken.len
    (subst (IsFirstPart (take 4 (kept ++ input)) _) c.in-Broken.is part) (grind (arith, nat_tests)) in
    sym (length-take-le c.in-Broken.len c.as_slice-bytes.result.now
    (subst (λ bs. c.in-Broken.len ≤ length bs) (sym is) within))

pub returns-in-Whole : goal.returns-in-Whole
returns-in-Whole c =
    let kept : List ℕ = c.args.kept.now in
    let input : List ℕ = c.args.input.now in
    let is = c.as_slice-bytes.ensures.bytes ∙ c.fill-filled.ensures in
    let part = subst (λ bs. IsFirstPart bs c.first_part-ending.result.0.now c.first_part-ending.result.1) is
    (record {
      front_is = c.first_part-ending.ensures.front;
      text = search rules;
      items =
          c.first_part-ending.ensures.items;
    }) in
    rw c.new-in-Whole.ensures (completes_nothing kept input c.requires _
    (subst (IsFirstPart (take 4 (kept ++ input)) _) c.in-Whole.is part) (grind (arith, nat_tests)))

pub returns-in-Broken : goal.returns-in-Broken
returns-in-Broken c =
    let kept : List ℕ = c.args.kept.now in
    let input : List ℕ = c.args.input.now in
    let is = c.as_slice-bytes.ensures.bytes ∙ c.fill-filled.ensures in
    let part = subst (λ bs. IsFirstPart bs c.first_part-ending.result.0.now c.first_part-ending.result.1) is
    (record {
      front_is = c.first_part-ending.ensures.front;
      text = search rules;
      items =
          c.first_part-ending.ensures.items;
    }) in
    breaks kept input c.requires _ c.new-in-Broken.result c.in-Broken.len
    (subst (IsFirstPart (take 4 (kept ++ input)) _) c.in-Broken.is part) (grind (arith, nat_tests))
    (c.new-in-Broken.ensures ∙ ap (take c.in-Broken.len) is)

pub returns-in-Open : goal.returns-in-Open
returns-in-Open c =
    let kept : List ℕ = c.args.kept.now in
    let input : List ℕ = c.args.input.now in
    let is = c.as_slice-bytes.ensures.bytes ∙ c.fill-filled.ensures in
    let part = subst (λ bs. IsFirstPart bs c.first_part-ending.result.0.now c.first_part-ending.result.1) is
    (record {
      front_is = c.first_part-ending.ensures.front;
      text = search rules;
      items =
          c.first_part-ending.ensures.items;
    }) in
    rw c.fill-filled.ensures (opens kept input c.requires _
    (subst (IsFirstPart (take 4 (kept ++ input)) _) c.in-Open.is part) (grind (arith, nat_tests)))
