-- The settings of a run configuration, as libxdp writes them into an object.
use Rattle.std.specs.Prelude.{◌≡◌, ℕ, ◌==◌, ◌||◌, ◌^◌, Bool, not, IsTrue, List, [], ◌∷◌, codes, sum_by, unwrap_or, if◌then◌else◌}
use Rattle.std.specs.List.{list_any}
use Rattle.std.specs.Option.{option_map_or}
use Rattle.std.specs.Str.{bytes_eq}
use Rattle.btf_types.specs.declared.types.Part.{Part}
use Rattle.btf_types.specs.TypeTable.{TypeTable, name_at}
use Rattle.xio.specs.declared.action.Action.{Action}
use Rattle.xio.specs.declared.action.Action.TheVariants.{Aborted, Drop, Pass, Tx, Redirect}
use Rattle.xio.specs.Action.{number}
use Rattle.run_config.specs.declared.settings.RunConfig.{RunConfig}
use Rattle.run_config.specs.Counted.{Counts}
use Rattle.run_config.specs.Values.{Named, last_value}

abbrev pub action_name : Action → List ℕ
action_name Aborted = codes "XDP_ABORTED"
action_name Drop = codes "XDP_DROP"
action_name Pass = codes "XDP_PASS"
action_name Tx = codes "XDP_TX"
action_name Redirect = codes "XDP_REDIRECT"

abbrev pub actions : List Action
actions = Aborted ∷ Drop ∷ Pass ∷ Tx ∷ Redirect ∷ []

-- a member of this name sets the priority, or whether the chain goes on after an action
unfoldable pub is_setting : List ℕ → Bool
is_setting name = bytes_eq name (codes "priority") || list_any (λ action. bytes_eq name (action_name action)) actions

-- what a member sets: its name and its value
pub record Sets (types : TypeTable) (member : Part) (setting : Named) : Type 0 where
  pub name : setting.name ≡ name_at types member.name
  pub known : IsTrue (is_setting setting.name)
  pub value : Counts types member.target setting.value

-- 50 where it isn't set
unfoldable pub priority_of : List Named → ℕ
priority_of settings = unwrap_or (last_value (codes "priority") settings) 50

-- the chain goes on after an action whose last setting isn't 0, and after XDP_PASS where it has none
unfoldable pub goes_on : List Named → Action → Bool
goes_on settings action = option_map_or (λ value. not (value == 0)) (last_value (action_name action) settings) (number action == number Pass)

-- bit k stands for the action with number k
abbrev pub mask_from : (Action → Bool) → ℕ
mask_from has = sum_by (λ action. if has action then 2 ^ number action else 0) actions

unfoldable pub config_from : List Named → RunConfig
config_from settings = record { priority = priority_of settings; mask = mask_from (goes_on settings) }
