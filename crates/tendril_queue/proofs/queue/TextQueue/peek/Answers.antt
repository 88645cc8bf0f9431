use Rattle.std.proofs.Common.{◌≡◌, ◌∷◌, ℕ, List, subst, ap}
use Rattle.std.specs.Prelude.{chars}
use Rattle.std.proofs.lemmas.Option.{IfSome_then}
use Rattle.tendril_queue.proofs.Fronts.{first_char}
use Rattle.tendril_queue.specs.Queues.{Queued, all_texts}
use Rattle.tendril_text.specs.TextLists.{bytes_of_all}
use Rattle.tendril_queue.proofs.queue.TextQueue.peek.Goals as goal

pub returns-clause-character : goal.returns-clause-character
returns-clause-character g c =
    let t = c.self.inside.first in
    let xs = c.self.inside.rest.items in
    let same : bytes_of_all (all_texts t xs) ≡ c.args.self.now.bytes = ap (λ (q : Queued). q.bytes) c.self.view_is in
    IfSome_then c.peek_front_char.result c.peek_front_char.ensures.character (λ character h. subst (λ b.
    (rest : List ℕ) × (chars b ≡ character ∷ rest)) same (first_char t xs character c.self.invariant h))
