use Rattle.std.proofs.Common.{◌%◌, [], ap, arith, refl}
use Rattle.b3_devices.specs.declared.at_offsets.TheConstants.{REGION_LEN}
use Rattle.b3_devices.proofs.at_offsets.hash_regions.Goals as goal

pub push_region-requires-clause-part : goal.push_region-requires-clause-part
push_region-requires-clause-part g c = rw c.len-in-regions.ensures.value at c.in_ok-node.ensures

pub regions-init : goal.regions-init
regions-init g c =
    let new = c.new-hasher.ensures in
    record {
      hashed = record {
        before = [];
        stands = new.stands_for;
        mode_is = new.mode;
        aligned = ap (λ n. n % REGION_LEN) new.len;
        is = λ told. refl;
      };
      reached = omega (arith, new.len);
    }
