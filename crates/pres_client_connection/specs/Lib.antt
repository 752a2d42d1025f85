pub mod DrivenClients
