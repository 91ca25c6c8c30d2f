-- The laws that an operation type brings as an implementation of `Transform`, as the records that lemmas take
use Rattle.jup_xform.specs.contracts.Transform.TheBound.{All}
use Rattle.jup_xform.specs.Grids.{IsLawful, KeepsMeaning, KeepsFresh, KeepsRest}

pub lawful : {Op State Edit : _} {t : _} {dict : _} → All Op State Edit t dict → IsLawful t
lawful all = record {
  square = all.square;
  distinct_after = all.distinct_after;
  small_after = all.small_after;
  small_below = all.small_below;
  small_before = all.small_before;
  apart_swap = all.apart_swap;
  apart_client = all.apart_client;
  apart_server = all.apart_server;
}

pub keeps_fresh : {Op State Edit : _} {t : _} {dict : _} → All Op State Edit t dict → KeepsFresh t
keeps_fresh all = record {
  fresh_client = all.fresh_client;
  fresh_server = all.fresh_server;
  fresh_of_client = all.fresh_of_client;
  fresh_of_server = all.fresh_of_server;
}

pub keeps_meaning : {Op State Edit : _} {t : _} {dict : _} → All Op State Edit t dict → KeepsMeaning t
keeps_meaning all = record {
  effect_one = all.effect_one;
  order = all.order;
  order_self = all.order_self;
  order_chain = all.order_chain;
  inserts_client = all.inserts_client;
  inserts_server = all.inserts_server;
  changes_client = all.changes_client;
  changes_server = all.changes_server;
  apart_names = all.apart_names;
  fresh_names = all.fresh_names;
  inserts_new = all.inserts_new;
  changes_held = all.changes_held;
  held_before = all.held_before;
  held_after = all.held_after;
  meaning_none = all.meaning_none;
  meaning_more = all.meaning_more;
  edit_client = all.edit_client;
  edit_server = all.edit_server;
}

pub keeps_rest : {Op State Edit : _} {t : _} {dict : _} → All Op State Edit t dict → KeepsRest t
keeps_rest all = record {
  effect_two = all.effect_two;
  room_less = all.room_less;
  room_client = all.room_client;
  room_server = all.room_server;
  shape_client = all.shape_client;
  shape_server = all.shape_server;
}
