use Rattle.std.proofs.Common.{◌≡◌, ◌+◌, false, get_or, sym, subst, ap, ◌∙◌, arith}
use Rattle.std.specs.Int.{bit_at}
use Rattle.std.specs.Simd.Lanes.{chunk}
use Rattle.std.proofs.lemmas.Simd.{length-chunk, get_or-chunk}
use Rattle.tendril_fmt.proofs.SetLanes.{mask_is, others, within}
use Rattle.tendril_fmt.specs.Sets.{is_byte4}
use Rattle.tendril_fmt.proofs.cuts.byte_set.places_of.Goals as goal

pub returns-clause-others : goal.returns-clause-others
returns-clause-others x k l zero =
    let bytes = x.args.bytes.now in
    let v = chunk 0 16 bytes in
    let long = length-chunk 0 16 bytes (omega (arith, x.requires)) in
    let is = mask_is x.args.a x.args.b x.args.c x.args.d v _ _ _ _ x.equal_to.ensures x.equal_to-2.ensures
    x.equal_to-3.ensures x.equal_to-4.ensures long in
    let at : 0 + k ≡ k = omega arith in
    let read : get_or v k 0 ≡ get_or bytes k 0 = get_or-chunk 0 16 bytes k 0 l ∙ ap (λ m. get_or bytes m 0) at in
    subst (λ b. is_byte4 x.args.a x.args.b x.args.c x.args.d b ≡ false) read
    (others x.args.a x.args.b x.args.c x.args.d v k (omega (arith, l, long)) (sym (ap (λ m. bit_at m k) is) ∙ zero))

pub returns-clause-within : goal.returns-clause-within
returns-clause-within x k one =
    let bytes = x.args.bytes.now in
    let v = chunk 0 16 bytes in
    let long = length-chunk 0 16 bytes (omega (arith, x.requires)) in
    let is = mask_is x.args.a x.args.b x.args.c x.args.d v _ _ _ _ x.equal_to.ensures x.equal_to-2.ensures
    x.equal_to-3.ensures x.equal_to-4.ensures long in
    let less = within x.args.a x.args.b x.args.c x.args.d v k (sym (ap (λ m. bit_at m k) is) ∙ one) in
    omega (arith, less, long)
