use Rattle.std.proofs.Common.{◌≡◌, take, map}
use Rattle.device_models.specs.AnyDevices.{device_of}
use Rattle.script_runner.proofs.opening.opening_devices.Given as goal

-- the devices so far are those of the first units
abbrev pub invariant-loop-kind : goal.invariant-loop-kind
invariant-loop-kind g l = record {
  made : l.devices.items ≡ map device_of (take l.kind-index l.kinds);
  unrefused : g.S.Supply.refused l.supply ≡ g.S.Supply.refused l.fn.supply;
}
