use Rattle.std.proofs.Common.{map}
use Rattle.jup_world.specs.Twos.{plain, carried}
use Rattle.jup_world.specs.contracts.two.Two.{the_view}
use Rattle.jup_world.proofs.TwoKept as two_kept
use Rattle.jup_world.proofs.two.Two.step.Goals as goal

pub invariant_of-self : goal.invariant_of-self
invariant_of-self c =
    two_kept.client_step c.make.result (the_view c.self.inside) c.in-Client.edit (plain c.make.new.end) (map carried c.make.new.out.items)
    c.make.ensures.end c.make.ensures.out c.make.ensures.same_end c.make.ensures.same_out c.self.invariant

pub invariant_of-self-in-Server : goal.invariant_of-self-in-Server
invariant_of-self-in-Server c =
    two_kept.server_step c.make-in-Server.result (the_view c.self.inside) c.in-Server.edit (plain c.make-in-Server.new.end) (map carried c.make-in-Server.new.out.items)
    c.make-in-Server.ensures.end c.make-in-Server.ensures.out c.make-in-Server.ensures.same_end c.make-in-Server.ensures.same_out c.self.invariant

pub deliver-requires : goal.deliver-requires
deliver-requires c = two_kept.next_up_accepted (the_view c.self.inside) c.self.invariant

pub invariant_of-self-in-Up : goal.invariant_of-self-in-Up
invariant_of-self-in-Up c =
    let e = c.deliver.ensures in
    two_kept.up_step c.deliver.result (the_view c.self.inside) (plain c.deliver.new.end) (map carried c.deliver.new.stream.items) (map carried c.deliver.new.back.items)
    e.end e.stream e.back e.same_end e.same_stream e.same_back c.self.invariant

pub deliver-requires-in-Down : goal.deliver-requires-in-Down
deliver-requires-in-Down c = two_kept.next_down_accepted (the_view c.self.inside) c.self.invariant

pub invariant_of-self-in-Down : goal.invariant_of-self-in-Down
invariant_of-self-in-Down c =
    let e = c.deliver-in-Down.ensures in
    two_kept.down_step c.deliver-in-Down.result (the_view c.self.inside) (plain c.deliver-in-Down.new.end) (map carried c.deliver-in-Down.new.stream.items) (map carried c.deliver-in-Down.new.back.items)
    e.end e.stream e.back e.same_end e.same_stream e.same_back c.self.invariant
