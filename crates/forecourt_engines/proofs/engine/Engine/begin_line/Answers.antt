use Rattle.std.proofs.Common.{◌≡◌, length, arith, sym}
use Rattle.std.specs.Vec.{vec_len}
use Rattle.forecourt_engines.proofs.Lines.{stays_ended, goes_on_still, held_on, held_long}
use Rattle.forecourt_engines.proofs.engine.Engine.begin_line.Goals as goal

-- behind the end of the text
pub returns-then-is_some : goal.returns-then-is_some
returns-then-is_some c =
    let stays = stays_ended _ c.args.more.now (sym c.if-is_some.ensures) in
    rw (← c.self.view_is) (record { state = sym stays.0; silent = stays.1 })

-- a line that is too long
pub returns-in_ok-extend_from_slice : goal.returns-in_ok-extend_from_slice
returns-in_ok-extend_from_slice c =
    let none = goes_on_still c.self.inside.stop (sym c.if-is_some.ensures) in
    let size : vec_len c.self.inside.line ≡ length c.self.inside.line.items = omega arith in
    let long =
    held_long _ c.args.more.now none c.requires c.self.invariant
    (omega (arith, c.if-more-room.true, c.len-room.ensures)) in
    record {
      state = rw (
        ← c.self.view_is,
        c.in_ok-extend_from_slice.ensures.items,
        c.len-room.ensures,
        size,
      ) (sym long.0);
      silent = rw (← c.self.view_is) long.1;
    }

-- octets that go on with the line
pub returns-in_ok-extend_from_slice-2 : goal.returns-in_ok-extend_from_slice-2
returns-in_ok-extend_from_slice-2 c =
    let none = goes_on_still c.self.inside.stop (sym c.if-is_some.ensures) in
    let on =
    held_on _ c.args.more.now none c.requires
    (omega (arith, c.if-more-room.false, c.len-room.ensures, c.self.invariant)) in
    record {
      state = rw (← c.self.view_is, c.in_ok-extend_from_slice-2.ensures.items) (sym on.0);
      silent = rw (← c.self.view_is) on.1;
    }
