-- What is known of a nonlinear call and of a linear call whose meaning is given, at arguments of given shapes.
use Rattle.std.specs.Prelude.{List}
use Rattle.dcx_shape.specs.declared.shape.Sides.{Sides}
use Rattle.dcx_shape.specs.Sides.{entries_of}
use Rattle.dcx_atom.specs.Signs.{sign_at}
use Rattle.dcx_atom.specs.Meaning.{Meaning}
use Rattle.dcx_atom.specs.Linear.{LinearMeaning}
use Rattle.dcx_convex.specs.Calls.{Call, Nonlinear, Linear}

-- a nonlinear call at arguments of these sides, whose value has the sides that are given last
abbrev pub atom_call : Meaning → List Sides → Sides → Call
atom_call m args sides = record {
  kind = Nonlinear m.bend;
  size = entries_of sides;
  sign = m.sign;
  trend = λ signs i. m.trend i (sign_at signs i);
  value = m.value args;
}

-- the same of a linear call
abbrev pub linear_call : LinearMeaning → List Sides → Sides → Call
linear_call m args sides = record {
  kind = Linear;
  size = entries_of sides;
  sign = m.sign;
  trend = λ signs i. m.trend i;
  value = m.value args;
}
