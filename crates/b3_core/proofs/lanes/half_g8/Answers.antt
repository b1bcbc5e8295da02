use Rattle.std.proofs.Common.{set}
use Rattle.b3_core.proofs.LaneWords.{added_three, half_g-lanes, length-turned}
use Rattle.b3_core.proofs.LaneWords.{wide-added_three, wide-added_two, wide-set}
use Rattle.b3_core.proofs.lanes.half_g8.Goals as goal

pub xor_rotated8-requires : goal.xor_rotated8-requires
xor_rotated8-requires c =
    let a = c.args in
    let wide = wide-added_three a.v.now a.a a.b a.x c.requires.wide c.requires.a c.requires.b c.requires.x in
    record {
      some = c.requires.some.0;
      below = c.requires.below.0;
      x = wide.1 a.d c.requires.d;
      y = wide.1 a.a c.requires.a;
    }

pub xor_rotated8-requires-2 : goal.xor_rotated8-requires-2
xor_rotated8-requires-2 c =
    let a = c.args in
    let v1 = added_three a.v.now a.a a.b a.x in
    let w1 = wide-added_three a.v.now a.a a.b a.x c.requires.wide c.requires.a c.requires.b c.requires.x in
    let y = c.xor_rotated8.result in
    let y_long = length-turned v1 a.d a.a a.r y w1 c.requires.d c.requires.a c.xor_rotated8.ensures in
    let w2 = wide-set v1 16 a.d y w1 y_long in
    let wide = wide-added_two (set v1 a.d y) a.c a.d w2 c.requires.c c.requires.d in
    record {
      some = c.requires.some.1;
      below = c.requires.below.1;
      x = wide.1 a.b c.requires.b;
      y = wide.1 a.c c.requires.c;
    }

pub returns : goal.returns
returns c =
    let a = c.args in
    let half = half_g-lanes a.v.now a.a a.b a.c a.d a.r a.s a.x c.xor_rotated8.result
    c.xor_rotated8-2.result c.requires.a
    c.requires.b c.requires.c c.requires.d c.requires.wide c.requires.x c.xor_rotated8.ensures
    c.xor_rotated8-2.ensures in
    record { wide = half.0; lanes = half.1 }
