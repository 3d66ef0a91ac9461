-- A port that closes, and the connections that wait there.
use Rattle.std.proofs.Common.{◌≡◌, ℕ, ◌+◌, ◌<◌, ◌≤◌, ◌==◌, not, Bool, true, false, cond, List, [], ◌∷◌, ◌++◌, length, get_or, take, Option, None, Some, is_some, refl, sym, ap, ◌∙◌, subst, true≢false}
use Rattle.std.proofs.lemmas.List.{take_all, take_more}
use Rattle.parts_model.specs.declared.open.Conn.{Conn}
use Rattle.parts_model.specs.declared.open.Description.TheVariants.{Listener}
use Rattle.parts_model.specs.Ports.{Port, Ports, freed, port_at}
use Rattle.arn_model.specs.Kernel.{Kernel, closed, without_port, without_servers, without_side}
use Rattle.guest_sockets.specs.Answers.{waiting_at, waiting_of}
use Rattle.guest_channels.specs.Channels.{Channels, Alters, with_channels}

-- one connection more loses its server
without_servers-add : (conns : List Conn) (conn : Conn) (k : Kernel) → without_servers (conns ++ conn ∷ []) k ≡ without_side conn.to_server conn.to_client (without_servers conns k)
without_servers-add [] conn k = refl
without_servers-add (first ∷ conns) conn k = without_servers-add conns conn (without_side first.to_server first.to_client k)

pub next-closed : (old mid new : Channels) (conns : List Conn) (i : ℕ) (d : Conn) → i < length conns → Alters old (without_servers (take i conns)) mid → Alters mid (without_side (get_or conns i d).to_server (get_or conns i d).to_client) new → Alters old (without_servers (take (i + 1) conns)) new
next-closed old mid new conns i d within before last =
    record {
      kernel =
          λ k. ap (λ (l : List Conn). without_servers l (with_channels old k)) (take_more conns i d within)
          ∙ without_servers-add (take i conns) (get_or conns i d) (with_channels old k)
          ∙ ap (without_side (get_or conns i d).to_server (get_or conns i d).to_client) (before.kernel k)
          ∙ last.kernel k;
    }

-- nothing is freed where nothing listens
freed-none : (ports : Ports) (port : ℕ) → port_at ports port ≡ None → freed ports port ≡ ports
freed-none [] port none = refl
freed-none (p ∷ ports) port none = by (p.number == port) none (freed-none ports port)
  where
    by : (b : Bool) → cond b (Some p) (port_at ports port) ≡ None → (port_at ports port ≡ None → freed ports port ≡ ports) → cond (not b) (p ∷ freed ports port) (freed ports port) ≡ p ∷ ports
    by true none rest = absurd (true≢false (ap is_some none))
    by false none rest = ap (λ (l : Ports). p ∷ l) (rest none)

-- all that wait there have lost their server
all-closed : (old new : Channels) (port : ℕ) (o : Option Port) → port_at old.ports port ≡ o → Alters (record old { ports = freed old.ports port }) (without_servers (waiting_of o)) new → (k : Kernel) → without_port port o (with_channels old k) ≡ with_channels new k
all-closed old new port None is done k = ap (λ (l : Ports). with_channels (record old { ports = l }) k) (sym (freed-none old.ports port is)) ∙ done.kernel k
all-closed old new port (Some p) is done k = done.kernel k

pub port-closed : (old new : Channels) (port : ℕ) (ports : Ports) (conns : List Conn) (i : ℕ) → ports ≡ freed old.ports port → conns ≡ waiting_at old.ports port → length conns ≤ i → Alters (record old { ports = ports }) (without_servers (take i conns)) new → Alters old (closed (Listener port)) new
port-closed old new port ports conns i free waiting past done =
    record {
      kernel =
          all-closed old new port (port_at old.ports port) refl
          (subst (λ (l : List Conn). Alters (record old { ports = freed old.ports port }) (without_servers l) new) (take_all i conns past ∙ waiting)
          (subst (λ (l : Ports). Alters (record old { ports = l }) (without_servers (take i conns)) new) free done));
    }
