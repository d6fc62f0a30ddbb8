-- The set has the names of what is declared, with the one that is put.
use Rattle.std.proofs.Common.{◌≡◌, false, List, [], ◌∷◌, ◌++◌, sym, ap, ◌∙◌, subst}
use Rattle.std.specs.List.{list_any}
use Rattle.std.specs.HashSet.{contains}
use Rattle.std.proofs.lemmas.Result.{on_ok_weaker, on_err_weaker}
use Rattle.dcx_point.specs.Pairs.{same_name}
use Rattle.dcx_call.specs.declared.attribute.Variable.{Variable}
use Rattle.dcx_script_state.specs.Lists.{Lists, is_among}
use Rattle.dcx_script_state.proofs.Naming.{variable_came}
use Rattle.dcx_script_state.proofs.declared.Declared.add_variable.Goals as goal

pub invariant_of-self : goal.invariant_of-self
invariant_of-self c =
    let new = subst (λ (d : Lists). is_among c.args.variable.name d.variables d.parameters ≡ false) (sym c.self.view_is) c.requires.new in
    variable_came c.self.inside.variables.items c.self.inside.parameters.items (contains same_name c.self.inside.names) (contains same_name c.push_named.new.names) c.self.invariant
    c.push_named.result c.in_ok-name.name (on_ok_weaker c.push_named.result (λ u. u.0) c.push_named.ensures.named)
    (on_err_weaker c.push_named.result (λ u q. ap (list_any (same_name q)) u) c.push_named.ensures.same_names)
    c.args.variable c.push_named.new.items.items c.in_ok-name.ensures new c.requires.square c.push_named.ensures.pushed c.push_named.ensures.same_items

pub returns : goal.returns
returns c = record {
  ok = on_ok_weaker c.push_named.result
      (λ e. ap (λ (xs : List Variable). record { variables = xs; parameters = c.self.inside.parameters.items }) e
      ∙ ap (λ (d : Lists). record d { variables = d.variables ++ c.args.variable ∷ [] }) c.self.view_is)
      c.push_named.ensures.pushed;
  err = on_err_weaker c.push_named.result (λ e. ap (λ (xs : List Variable). record { variables = xs; parameters = c.self.inside.parameters.items }) e ∙ c.self.view_is) c.push_named.ensures.same_items;
}
