use Rattle.std.proofs.Common.{rules, ◌≡◌, refl, Some, None}
use Rattle.jup_http.specs.declared.stream.Event.TheVariants.{Ping, Closed, Broken}
use Rattle.jup_http.proofs.Frames.{gives_ping, gives_other, ends_at_ping, ends_at_other}
use Rattle.jup_http.proofs.reader.MessageReader.give.Goals as goal

pub returns-in-Some-Ping-clause-heard : goal.returns-in-Some-Ping-clause-heard
returns-in-Some-Ping-clause-heard g c =
    let is : c.unframe_part-unframed.result.event ≡ Some (Ping c.in-Some-Ping.payload) = first_of (cc (c.in-Some-Ping.is, c.in-Some-Ping.field-0-is, c.in-Some-Ping.payload-is), search rules) in
    gives_ping _ _ _ _ _ c.unframe_part-unframed.result.event c.in-Some-Ping.payload _ _ _ is c.requires c.unframe_part-unframed.ensures.told

pub returns-in-Some-Closed-clause-heard : goal.returns-in-Some-Closed-clause-heard
returns-in-Some-Closed-clause-heard g c =
    let is : c.unframe_part-unframed.result.event ≡ Some (Closed c.in-Some-Closed.code) = first_of (cc (c.in-Some-Closed.is, c.in-Some-Closed.field-0-is, c.in-Some-Closed.code-is), search rules) in
    gives_other _ _ _ _ _ c.unframe_part-unframed.result.event _ _ _ (rw is refl) c.requires c.unframe_part-unframed.ensures.told

pub returns-in-Some-Broken-clause-heard : goal.returns-in-Some-Broken-clause-heard
returns-in-Some-Broken-clause-heard g c =
    let is : c.unframe_part-unframed.result.event ≡ Some (Broken c.in-Some-Broken.breach) = first_of (cc (c.in-Some-Broken.is, c.in-Some-Broken.field-0-is, c.in-Some-Broken.breach-is), search rules) in
    gives_other _ _ _ _ _ c.unframe_part-unframed.result.event _ _ _ (rw is refl) c.requires c.unframe_part-unframed.ensures.told

pub returns-in-None-clause-heard : goal.returns-in-None-clause-heard
returns-in-None-clause-heard g c =
    let is : c.unframe_part-unframed.result.event ≡ None = c.in-None.is in
    gives_other _ _ _ _ _ c.unframe_part-unframed.result.event _ _ _ (rw is refl) c.requires c.unframe_part-unframed.ensures.told

pub returns-in-Some-Ping-clause-ended : goal.returns-in-Some-Ping-clause-ended
returns-in-Some-Ping-clause-ended g c =
    let is : c.unframe_part-unframed.result.event ≡ Some (Ping c.in-Some-Ping.payload) = first_of (cc (c.in-Some-Ping.is, c.in-Some-Ping.field-0-is, c.in-Some-Ping.payload-is), search rules) in
    ends_at_ping _ _ _ _ _ c.unframe_part-unframed.result.event c.in-Some-Ping.payload _ _ _ is c.requires c.unframe_part-unframed.ensures.told

pub returns-in-Some-Closed-clause-ended : goal.returns-in-Some-Closed-clause-ended
returns-in-Some-Closed-clause-ended g c =
    let is : c.unframe_part-unframed.result.event ≡ Some (Closed c.in-Some-Closed.code) = first_of (cc (c.in-Some-Closed.is, c.in-Some-Closed.field-0-is, c.in-Some-Closed.code-is), search rules) in
    ends_at_other _ _ _ _ _ c.unframe_part-unframed.result.event _ _ _ _ c.requires (rw is refl) c.unframe_part-unframed.ensures.told

pub returns-in-Some-Broken-clause-ended : goal.returns-in-Some-Broken-clause-ended
returns-in-Some-Broken-clause-ended g c =
    let is : c.unframe_part-unframed.result.event ≡ Some (Broken c.in-Some-Broken.breach) = first_of (cc (c.in-Some-Broken.is, c.in-Some-Broken.field-0-is, c.in-Some-Broken.breach-is), search rules) in
    ends_at_other _ _ _ _ _ c.unframe_part-unframed.result.event _ _ _ _ c.requires (rw is refl) c.unframe_part-unframed.ensures.told

pub returns-in-None-clause-ended : goal.returns-in-None-clause-ended
returns-in-None-clause-ended g c =
    ends_at_other _ _ _ _ _ c.unframe_part-unframed.result.event _ _ _ _ c.requires (rw c.in-None.is refl) c.unframe_part-unframed.ensures.told
