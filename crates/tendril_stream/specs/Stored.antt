-- The list of characters and errors that a sink was sent, if it stores them.
use Rattle.std.proofs.Common.{◌≡◌, List, [], ◌∷◌, ◌++◌, ap, ◌∙◌, append-nil}
use Rattle.std.proofs.lemmas.List.Concat.{flat_map-append}
use Rattle.tendril_lossy.specs.Lossy.{Told}
use Rattle.tendril_stream.specs.Sinks.{Sent, told, told_of}

pub stored_on : (old new : List Sent) (e : Sent) (t : List Told) → new ≡ old ++ e ∷ [] → told old ≡ t
    → told new ≡ t ++ told_of e
stored_on old new e t is h =
    ap told is ∙ flat_map-append told_of old (e ∷ []) ∙ ap (λ l. l ++ told (e ∷ [])) h ∙ ap (λ l. t ++ l)
    (append-nil (told_of e))
