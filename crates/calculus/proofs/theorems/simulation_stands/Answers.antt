use Rattle.calculus.proofs.Simulation.{simulation}
use Rattle.calculus.proofs.MachineRuns.{run_simulation, start_means, states_stand, machine_safety}
use Rattle.calculus.proofs.theorems.simulation_stands.Goals as goal

pub returns : goal.returns
returns c = record { step = simulation; run = run_simulation; start = start_means; states = states_stand; safe = machine_safety }
