use Rattle.std.proofs.Common.{◌≡◌, length-append, drop, arith, sym, ap, ◌∙◌}
use Rattle.jup_net.specs.Inboxes.{Arrived}
use Rattle.jup_net.proofs.Inboxes.{taken_front}
use Rattle.jup_net.proofs.inbox.Inbox.take.Goals as goal

pub returns : goal.returns
returns c =
    let len = c.min-len.result in
    let piece = c.copy_from_slice.new.self in
    let room = drop len c.args.buf.now in
    let front = c.as_slices.result.0.now in
    let back = c.as_slices.result.1.now in
    let waits : c.args.self.now.0 ≡ c.self.inside.bytes.items = sym (ap (λ (a : Arrived). a.0) c.self.view_is) in (
      omega (arith, c.if-len-eq0.false),
      omega (arith, length-append piece room, c.copy_from_slice.ensures.len, c.min-len.ensures),
      waits ∙ taken_front len front back c.self.inside.bytes.items piece room c.consume.new.self.items c.as_slices.ensures.items (omega (arith, c.min-len.ensures)) c.copy_from_slice.ensures.after c.consume.ensures.rest,
      ap (λ (a : Arrived). a.1) c.self.view_is,
    )
