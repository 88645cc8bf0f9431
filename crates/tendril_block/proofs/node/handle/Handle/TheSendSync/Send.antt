-- A handle of a kind that is `Send` is `Send` too: what it and the count's invariant own names no thread's key.
use Rattle.std.proofs.Common.{◌≡◌, ℕ, ◌+◌, Bool, true, false, [], ◌∷◌, sym, subst}
use denote.RattleType.{RattleType}
use base.Fraction.{full_share}
use base.Fml.{fex}
use base.Shift.{Keyless}
use denote.RawPtr.{Ptr, block_ptr, null_ptr}
use denote.Builtin.{RawPtr}
use denote.Struct.Owning.{fields, shape, to}
use denote.Struct.Struct.{exits_of}
use denote.Param.Send.{IsSend, IsSync, AllSend, part_keyless, owning_send, struct_send, sendable}
use Rattle.std.specs.declared.alloc.Global.{Global}
use Rattle.std.specs.contracts.alloc.Global as heap
use Rattle.std_alloc.proofs.SendSync.{crosses, quiet, seen}
use Rattle.std_alloc.specs.Owners.{sole_or_counted}
use types.Keyed.{entry_keyless}
use Rattle.atomic_table.specs.Seated.{halved}
use Rattle.std.proofs.Crossing.{frees}
use Rattle.atomic_table.proofs.Sent.{roster_keyless}
use Rattle.tendril_count.specs.Rule.{role_coded, roles, Any, state}
use Rattle.tendril_block.specs.Owned.{limit, BodyRow, BodyIn, body_at, content, Id, reader, writer, held_at, Crosses}
use Rattle.tendril_block.specs.Owned.{block_owns}
use Rattle.tendril_block.proofs.body.Body.TheSendSync as body_crosses
use Rattle.core.specs.contracts.marker.PhantomData as marker
use Rattle.tendril_block.specs.declared.node.threading.Threading.{Ghosts}
use Rattle.tendril_block.specs.contracts.node.handle.Handle as C

ptr_send : IsSend RawPtr
ptr_send = search sendable

field_send : IsSend (heap.the_field).row
field_send = search (sendable, crosses)

vec_send : IsSend BodyRow
vec_send = body_crosses.the_send

vec_sync : IsSync BodyRow
vec_sync = body_crosses.the_sync

module _ (l : ℕ) (h : Global) (x : BodyIn) (b o : ℕ) where
  content_keyless : Keyless (content h x b o)
  content_keyless = (part_keyless BodyRow vec_send full_share x b (o + body_at), (frees.frees h _ _, tt))

  state_keyless : (i : Id) (y : Bool)
      → Keyless (state role_coded.code Any (limit l) (content h x b o) b (o + 0) i.0 i.1 y)
  state_keyless i true = λ s. (
    tt,
    (roster_keyless role_coded.code i.1 0 (roles s.holders), ((λ _. tt), ((λ _ _. tt), content_keyless))),
  )
  state_keyless i false = tt

  held_keyless : (y : Bool) → Keyless
      (sole_or_counted (fex Id (writer true l h x b o)) (fex Id (reader true l h x b o)) y)
  held_keyless true = λ i. (
    entry_keyless halved i.1 i.2 _,
    (tt, ((λ s. (roster_keyless role_coded.code i.1 0 (roles s.holders), (λ _. tt))), content_keyless)),
  )
  held_keyless false = λ i. (
    (λ _ _. tt),
    (
      state_keyless i,
      (
        entry_keyless halved i.1 i.2 _,
        seen BodyRow vec_sync (block_ptr b (o + body_at)) x
            (i.0 ∷ []),
      ),
    ),
  )

owned : (P : Type 0) (y : Bool) → (P → y ≡ true) → (l : ℕ) (p : Ptr) (h : Global) (x : BodyIn)
    → Keyless (block_owns P y l p h x)
owned P y so l (block_ptr b o) h x = λ c. subst (λ (z : Bool). Keyless (held_at z l h x b o)) (sym (so c))
    (held_keyless l h x b o)
owned P y so l null_ptr h x = tt

pub send : (K : RattleType) (g : Ghosts K.Denot) → IsSend K → IsSend (C.the_row K g)
send K g s = let O = C.the_type K g in let mark : IsSend (marker.the_field K).row = search sendable in
    let all : AllSend (fields O) = (ptr_send, (field_send, (mark, tt))) in
    owning_send O all (λ d. owned (Crosses K g.any_thread) g.any_thread (λ c. c s.owned) d.limit d.node d.alloc
    d.inner) (λ k. quiet (to O) (exits_of k (fields O)) ((struct_send (shape O) all).leaving k))
