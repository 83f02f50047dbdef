use Rattle.std.proofs.Common.{◌++◌, ◌∙◌, ◌∷◌, [], ap, inl, length, refl, subst}
use Rattle.moves.specs.Maps.{Map}
use Rattle.path_board.specs.declared.state.Foundation.{Foundation}
use Rattle.versions.specs.Databases.{Versioned}
use Rattle.lead_node.specs.Leading.{IsFed}
use Rattle.node_commands.proofs.LeadLemmas.{led_rose}
use Rattle.node_commands.proofs.leading.lead_begun.Goals as goal

pub returns-in-Ok-clause-ends : goal.returns-in-Ok-clause-ends
returns-in-Ok-clause-ends g c =
    let led = c.in-Ok.led in
    inl (record {
      doors_after = led.doors.items ++ led.feed ∷ [];
      last = led.board;
      failed = led.failed;
      so = record {
        doors_after = led.doors.items;
        feed_after = led.feed;
        all_after_are = refl;
        builds = led.builds;
        led = record {
          same_start = ap (λ (f : Foundation). f.start) c.in-Ok.ensures.base;
          same_order = ap (λ (f : Foundation). f.order) c.in-Ok.ensures.base;
          same_room = ap (λ (f : Foundation). f.room) c.in-Ok.ensures.base;
          legal = c.in-Ok.ensures.legal;
          named = c.in-Ok.ensures.named;
          quiet = c.in-Ok.ensures.quiet;
          served = c.in-Ok.ensures.served;
          fed = subst (λ (start : Map). IsFed g.H.Door.Door.at start c.args.leading.board
              (length c.args.opened.doors.items) c.args.opened.feed led.feed led.board.history) (ap (λ (v : Versioned). v.map) c.deref.ensures ∙ c.requires.can.start_is) c.in-Ok.ensures.fed;
          built = c.in-Ok.ensures.built;
          how = c.in-Ok.ensures.failed;
          over = c.in-Ok.ensures.over;
        };
      };
      back = c.hand_back.ensures.back;
      put = c.put_closing.ensures.put;
    })

-- a knock has failed then, and the house counts it as the doors are handed back
pub returns-in-Ok-clause-fault : goal.returns-in-Ok-clause-fault
returns-in-Ok-clause-fault g c = λ fault. c.hand_back.ensures.rose
    (led_rose g.H.Door.Door.at c.args.opened.doors.items c.in-Ok.led.doors.items c.args.opened.feed c.in-Ok.led.feed
    c.in-Ok.ensures.served.long c.requires.can.served.unknocked c.requires.can.unknocked (c.in-Ok.ensures.failed.some (c.put_closing.ensures.fault fault)))
