-- A handle may go to another thread, since the allocator and the client that it owns may.
use mir.Raw.{raw}
use base.Shift.{Keyless}
use denote.Memory.{lone}
use denote.RawPtr.{Ptr, block_ptr, null_ptr}
use denote.Struct.Struct.{exits_of}
use denote.Struct.Owning.{shape, fields, to}
use denote.Param.Send.{IsSend, AllSend, owning_send, struct_send, sendable}
use Rattle.std.specs.Prelude.{Option, None, Some}
use Rattle.std.proofs.Crossing as heap
use Rattle.std_alloc.proofs.SendSync.{quiet, lies}
use Rattle.std_heap.proofs.Global.TheSendSync as allocator
use Rattle.jup_c.specs.Prelude.{AnyClient, Global}
use Rattle.jup_reconnect.specs.contracts.any.AnyClient as Client
use Rattle.jup_reconnect.proofs.any.AnyClient.TheSendSync.{the_send as client}
use Rattle.jup_c.specs.Handles.{held}
use Rattle.jup_c.specs.contracts.handle.JupClient.{the_row, the_type}

-- what a handle owns is bound to no thread
held_anywhere : (a : Global) (p : Ptr) (inside : Option AnyClient) → Keyless (held a p inside)
held_anywhere a null_ptr None = tt
held_anywhere a null_ptr (Some x) = tt
held_anywhere a (block_ptr b o) None = tt
held_anywhere a (block_ptr b o) (Some x) = (lies Client.the_row client (block_ptr b o) x, heap.frees.frees a (raw (lone Client.the_row.mir)) (block_ptr b o))

pub send : IsSend the_row
send =
    let all : AllSend (fields the_type) = (search sendable, (allocator.the_field_send, tt)) in
    owning_send the_type all (λ h. held_anywhere h.alloc h.at h.inside) (λ k. quiet (to the_type) (exits_of k (fields the_type)) ((struct_send (shape the_type) all).leaving k))
